-- What a board asks of legal histories and of the ends of their cases.
use Rattle.std.specs.Prelude.{◌≡◌, ◌≤◌, ℕ, List}
use Rattle.sparse_poly.specs.declared.Term.{Term}
use Rattle.leaf_cert.specs.declared.certificate.RawEntry.{RawEntry}
use Rattle.case_rules.specs.Cases.{CaseState}
use Rattle.case_rules.specs.Belonging.{Belongs}
use Rattle.case_rules.specs.EndLaws.{AreEndLaws}
use Rattle.case_history.specs.Replay.{Replays}
use Rattle.legal_history.specs.Legal.{IsCase, IsLegal}

-- cases have one end, each case of a history is one, belongs to the root and is within the budget, and each entry of a legal history may come
pub record AreCaseLaws (root : List (List Term)) (budget : ℕ) : Type 0 where
  pub ends : AreEndLaws root budget
  pub replays : (h : List RawEntry) → IsLegal root budget h → Replays root h
  pub belongs : (h : List RawEntry) (n : ℕ) (c : CaseState) → IsCase root budget h n c → Belongs root c
  pub few : (h : List RawEntry) (n : ℕ) (c : CaseState) → IsCase root budget h n c → c.moves ≤ budget
  pub one : (h : List RawEntry) (n : ℕ) (c other : CaseState) → IsCase root budget h n c → IsCase root budget h n other → c ≡ other
