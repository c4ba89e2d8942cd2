-- What the calls of a board answer, and how the board goes on.
use Rattle.std.specs.Prelude.{◌≡◌, ◌≤◌, ◌⊎◌, ◌+◌, ℕ, List, length, reverse, count_by}
use Rattle.std.specs.List.{range_with_len}
use Rattle.std.specs.Option.{is_none}
use Rattle.std.specs.declared.option.Option.TheVariants.{Some}
use Rattle.sparse_poly.specs.declared.Term.{Term}
use Rattle.refute_store.specs.Live.{IsLeastLiveWithin, HasNoneWithin}
use Rattle.refute_cert.specs.Parts.{RefutationParts}
use Rattle.leaf_cert.specs.Parts.{LeafParts}
use Rattle.leaf_cert.specs.declared.certificate.Certificate.{Certificate}
use Rattle.leaf_cert.specs.declared.certificate.RawEntry.{RawEntry}
use Rattle.leaf_cert.specs.declared.certificate.RawEntry.TheVariants.{Split as split, Close as close}
use Rattle.case_rules.specs.Cases.{CaseState}
use Rattle.case_rules.specs.Ends.{End}
use Rattle.case_rules.specs.declared.outcome.Outcome.TheVariants.{Split as split_end, Dead as dead_end, Leaf as leaf_end}
use Rattle.case_history.specs.History.{publish, fate, cases_made, patterns, decisions_of, IsPending}
use Rattle.legal_history.specs.Legal.{post, IsCase, Step, Grows}
use Rattle.case_ledger.specs.State.{BoardState, with_entry}
use Rattle.case_ledger.specs.declared.answers.Look.{Look}
use Rattle.case_ledger.specs.declared.answers.Look.TheVariants as look
use Rattle.case_ledger.specs.declared.answers.Reply.{Reply}
use Rattle.case_ledger.specs.declared.answers.Reply.TheVariants as reply

-- the entry at this place, counted from the oldest, settled case n
pub record IsSettledAt (h : List RawEntry) (n place : ℕ) : Type 0 where
  pub entry : RawEntry
  pub is : fate h n ≡ Some (record { place = place; entry = entry })

-- case n is pending, and is c
pub record IsPendingCase (b : BoardState) (n : ℕ) (c : CaseState) : Type 0 where
  pub pending : IsPending b.history n
  pub is : IsCase b.root.equations b.budget b.history n c

-- what a look at case n answers
abbrev pub IsLook : BoardState → ℕ → Look → Type 0
IsLook b n (look.Pending c) = IsPendingCase b n c
IsLook b n (look.Settled at) = IsSettledAt b.history n at
IsLook b n look.NoCase = cases_made b.history ≤ n

-- how many of the cases that were made are not settled
abbrev pub pending_count : List RawEntry → ℕ
pending_count h = count_by (λ (n : ℕ). is_none (fate h n)) (range_with_len 0 (cases_made h))

-- case n is closed by the least live pattern within its decisions, whatever its outcome
pub record ClosesByStored (b : BoardState) (n k : ℕ) (new : BoardState) : Type 0 where
  pub least : IsLeastLiveWithin (patterns b.history) (decisions_of b.history n) k
  pub is : new ≡ with_entry b (close n k)

-- no pattern closes case n, which is dead: its refutation is posted as pattern k, and closes it
pub record ClosesByItself (b : BoardState) (n : ℕ) (o : End) (k : ℕ) (new : BoardState) : Type 0 where
  pub refutation : RefutationParts
  pub none : HasNoneWithin (patterns b.history) (decisions_of b.history n)
  pub is_end : o ≡ dead_end refutation
  pub number : k ≡ length (patterns b.history)
  pub is : new ≡ with_entry (with_entry b (post refutation)) (close n k)

-- no pattern closes case n, which is split into the next two cases
pub record SplitsInto (b : BoardState) (n : ℕ) (o : End) (left right : ℕ) (new : BoardState) : Type 0 where
  pub by : List Term
  pub zero_case : CaseState
  pub nonzero_case : CaseState
  pub none : HasNoneWithin (patterns b.history) (decisions_of b.history n)
  pub is_end : o ≡ split_end by zero_case nonzero_case
  pub left_is : left ≡ cases_made b.history
  pub right_is : right ≡ cases_made b.history + 1
  pub is : new ≡ with_entry b (split n by)

-- no pattern closes case n, whose leaf is published
pub record Publishes (b : BoardState) (n : ℕ) (o : End) (new : BoardState) : Type 0 where
  pub leaf : LeafParts
  pub none : HasNoneWithin (patterns b.history) (decisions_of b.history n)
  pub is_end : o ≡ leaf_end leaf
  pub is : new ≡ with_entry b (publish n leaf)

-- what settling case n with an outcome answers, and what the board is then
abbrev pub Settles : BoardState → ℕ → End → Reply → BoardState → Type 0
Settles b n o reply.NoCase new = (cases_made b.history ≤ n) × (new ≡ b)
Settles b n o (reply.AlreadySettled at) new = IsSettledAt b.history n at × (new ≡ b)
Settles b n o (reply.Closed k) new = IsPending b.history n × (ClosesByStored b n k new ⊎ ClosesByItself b n o k new)
Settles b n o (reply.Split left right) new = IsPending b.history n × SplitsInto b n o left right new
Settles b n o reply.Published new = IsPending b.history n × Publishes b n o new

-- the certificate has the head of the board, and its history, the oldest entry first
pub record IsCertificate (b : BoardState) (c : Certificate) : Type 0 where
  pub unknowns : c.unknowns ≡ b.root.unknowns
  pub equations : c.equations ≡ length b.root.equations
  pub budget : c.budget ≡ b.budget
  pub entries : c.entries ≡ reverse b.history

-- the board goes on from one state to another by steps, each for a case that `next` allows
pub record GoesOn (next : List RawEntry → ℕ → Type 0) (b new : BoardState) : Type 0 where
  pub root_is : new.root ≡ b.root
  pub budget_is : new.budget ≡ b.budget
  pub grows : Grows b.root.equations b.budget next b.history new.history

-- it goes on by one step
pub record StepsOn (next : List RawEntry → ℕ → Type 0) (b new : BoardState) : Type 0 where
  pub root_is : new.root ≡ b.root
  pub budget_is : new.budget ≡ b.budget
  pub step : Step b.root.equations b.budget next b.history new.history
