-- What the jobs on a board find, leave and reply. Histories have the oldest entry first here.
use Rattle.std.specs.Prelude.{◌≡◌, ℕ, List}
use Rattle.std.specs.declared.option.Option.{Option}
use Rattle.std.specs.declared.option.Option.TheVariants.{None, Some}
use Rattle.std.specs.declared.result.Result.{Result}
use Rattle.std.specs.declared.result.Result.TheVariants.{Ok, Err}
use mathlib.Core.List.{IsPrefix}
use Rattle.sparse_poly.specs.declared.Term.{Term}
use Rattle.leaf_cert.specs.declared.certificate.RawEntry.{RawEntry}
use Rattle.case_rules.specs.Ends.{End}
use Rattle.legal_history.specs.Legal.{IsEndOf}
use Rattle.case_ledger.specs.State.{BoardState}
use Rattle.case_ledger.specs.Board.{Settles}
use Rattle.case_ledger.specs.Origins.{origin_of, oldest_first, board_after}
use Rattle.case_ledger.specs.declared.answers.Reply.{Reply}
use Rattle.case_ledger.specs.declared.answers.Unsettled.{Unsettled}

-- the equations of a root and a budget, outside the lock
pub record RootParts : Type 0 where
  pub equations : List (List Term)
  pub budget : ℕ

-- they are those of the board
pub record AreOfBoard (b : BoardState) (r : RootParts) : Type 0 where
  pub equations : r.equations ≡ b.root.equations
  pub budget : r.budget ≡ b.budget

-- a case with what is left to do for it: to record this outcome, which is the strategy's end for it after what was seen
pub record Settling : Type 0 where
  pub seen : BoardState
  pub n : ℕ
  pub outcome : Option End

-- the outcome is the end of the case on the board that was seen
abbrev pub IsEndSeen : Settling → Type 0
IsEndSeen j = (o : End) → j.outcome ≡ Some o → IsEndOf j.seen.root.equations j.seen.budget j.seen.history j.n o

-- settling case n with what is left of its outcome: without one the board stays as it is, and there is no reply
abbrev pub SettlesWith : BoardState → ℕ → Option End → Option (Result Reply Unsettled) → BoardState → Type 0
SettlesWith b n None None new = new ≡ b
SettlesWith b n None (Some r) new = ⊥
SettlesWith b n (Some o) None new = ⊥
SettlesWith b n (Some o) (Some (Ok reply)) new = Settles b n o reply new
SettlesWith b n (Some o) (Some (Err e)) new = (e.outcome ≡ o) × (new ≡ b)

-- the same, for the histories that the job found and left
abbrev pub SettlesOnce : Settling → List RawEntry → List RawEntry → Option (Result Reply Unsettled) → Type 0
SettlesOnce j found left reply = SettlesWith (board_after (origin_of j.seen) found) j.n j.outcome reply (board_after (origin_of j.seen) left)

-- case n is settled on a board that went on from the one seen before, and the board after it is the one seen then
pub record SettlesLater (before : BoardState) (n : ℕ) (o : End) (reply : Reply) (after : BoardState) : Type 0 where
  pub found : List RawEntry
  pub begins : IsPrefix (oldest_first before) found
  pub settles : Settles (board_after (origin_of before) found) n o reply after
