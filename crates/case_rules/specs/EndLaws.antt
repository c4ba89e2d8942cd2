-- What a search asks of the ends of its cases.
use Rattle.std.specs.Prelude.{◌≡◌, ◌≤◌, ℕ, true, false, List}
use Rattle.sparse_poly.specs.declared.Term.{Term}
use Rattle.derive_lines.specs.Refuting.{Refutes, decided}
use Rattle.refute_store.specs.Live.{IsWithin}
use Rattle.refute_cert.specs.Parts.{RefutationParts}
use Rattle.leaf_cert.specs.Parts.{LeafParts}
use Rattle.leaf_cert.specs.Leaves.{GoodLeaf}
use Rattle.case_rules.specs.Cases.{CaseState, root_case}
use Rattle.case_rules.specs.Belonging.{Belongs}
use Rattle.case_rules.specs.Ends.{End, IsEnd}
use Rattle.case_rules.specs.declared.outcome.Outcome.TheVariants.{Split, Dead, Leaf as leaf_end}

-- both branches of a case have its decisions and one more, belong to the root, and have no more moves than the budget
pub record AreBranches (root : List (List Term)) (budget : ℕ) (c : CaseState) (by : List Term) (zero nonzero : CaseState) : Type 0 where
  pub zero_decisions : zero.decisions ≡ decided c.decisions by true
  pub nonzero_decisions : nonzero.decisions ≡ decided c.decisions by false
  pub zero_belongs : Belongs root zero
  pub nonzero_belongs : Belongs root nonzero
  pub zero_moves : zero.moves ≤ budget
  pub nonzero_moves : nonzero.moves ≤ budget

-- the pattern of a refutation refutes, and is within the decisions of the case
pub record RefutesCase (root : List (List Term)) (c : CaseState) (r : RefutationParts) : Type 0 where
  pub refutes : Refutes root r.pattern r.lines r.end
  pub within : IsWithin r.pattern c.decisions

-- a leaf is good, and has the decisions of the case
pub record IsLeafOf (root : List (List Term)) (c : CaseState) (leaf : LeafParts) : Type 0 where
  pub good : GoodLeaf root leaf
  pub same : leaf.decisions ≡ c.decisions

-- the root case belongs to the root, a case that belongs to it has one end, and where its moves are not above the budget the parts of the end are good
pub record AreEndLaws (root : List (List Term)) (budget : ℕ) : Type 0 where
  pub top : Belongs root (root_case root)
  pub one : (c : CaseState) (o p : End) → Belongs root c → IsEnd root budget c o → IsEnd root budget c p → o ≡ p
  pub split : (c : CaseState) (by : List Term) (zero nonzero : CaseState) → Belongs root c → c.moves ≤ budget → IsEnd root budget c (Split by zero nonzero) → AreBranches root budget c by zero nonzero
  pub dead : (c : CaseState) (r : RefutationParts) → Belongs root c → c.moves ≤ budget → IsEnd root budget c (Dead r) → RefutesCase root c r
  pub leaf : (c : CaseState) (l : LeafParts) → Belongs root c → c.moves ≤ budget → IsEnd root budget c (leaf_end l) → IsLeafOf root c l
