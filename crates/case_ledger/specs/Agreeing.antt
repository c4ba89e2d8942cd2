-- What a board keeps agrees with its history.
use Rattle.std.specs.Prelude.{◌≡◌, ◌≤◌, ◌+◌, ℕ, List, [], ◌∷◌, length, map}
use Rattle.std.specs.declared.option.Option.TheVariants.{None}
use Rattle.sparse_poly.specs.declared.Term.{Term}
use Rattle.derive_lines.specs.declared.parts.Decision.{Decision}
use Rattle.refute_cert.specs.Parts.{RefutationParts}
use Rattle.leaf_cert.specs.declared.certificate.RawEntry.{RawEntry}
use Rattle.pattern_store.specs.Refuted.{patterns_of}
use Rattle.case_rules.specs.Cases.{CaseState}
use Rattle.case_rules.specs.Belonging.{IsRootList}
use Rattle.case_history.specs.History.{fate, case_decisions, patterns}
use Rattle.legal_history.specs.Legal.{AreCases, IsLegal}
use Rattle.case_ledger.specs.Board.{IsSettledAt}
use Rattle.case_ledger.specs.Entries.{history_of, ArePosted}
use Rattle.case_ledger.specs.declared.entries.Kept.{Kept}
use Rattle.case_ledger.specs.declared.nodes.Node.{Node}
use Rattle.case_ledger.specs.declared.nodes.Node.TheVariants.{Pending, Settled}

-- the node of case n, which is c
abbrev pub IsNode : List RawEntry → ℕ → CaseState → Node → Type 0
IsNode h n c (Pending d) = (fate h n ≡ None) × (d ≡ c)
IsNode h n c (Settled at) = IsSettledAt h n at

-- the nodes of cases that are numbered from n on
abbrev pub AreNodes : List RawEntry → ℕ → List CaseState → List Node → Type 0
AreNodes h n [] [] = Unit {0}
AreNodes h n [] (node ∷ nodes) = ⊥
AreNodes h n (c ∷ cases) [] = ⊥
AreNodes h n (c ∷ cases) (node ∷ nodes) = IsNode h n c node × AreNodes h (n + 1) cases nodes

-- the decisions of cases
abbrev pub decisions_of_cases : List CaseState → List (List Decision)
decisions_of_cases cases = map (λ (c : CaseState). c.decisions) cases

-- the nodes and the patterns are those of the history, which is legal
pub record Agrees (root : List (List Term)) (budget : ℕ) (h : List RawEntry) (nodes : List Node) (ps : List (List Decision)) : Type 0 where
  pub listed : IsRootList root
  pub legal : IsLegal root budget h
  pub cases : List CaseState
  pub are : AreCases root budget h cases
  pub decisions_are : decisions_of_cases cases ≡ case_decisions h
  pub nodes_are : AreNodes h 0 cases nodes
  pub patterns_are : ps ≡ patterns h

-- what a board keeps beside the root and the budget
pub record IsKept (root : List (List Term)) (budget : ℕ) (entries : List Kept) (nodes : List Node) (stored : List RefutationParts) : Type 0 where
  pub small : budget ≤ 1000000
  pub posted : ArePosted (length stored) entries
  pub agrees : Agrees root budget (history_of stored entries) nodes (patterns_of stored)
