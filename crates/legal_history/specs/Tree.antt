-- The plain tree: the cases below the root case, without any store.
use Rattle.std.specs.Prelude.{◌≡◌, ◌⊎◌, ℕ, List}
use Rattle.std.specs.declared.option.Option.TheVariants.{Some}
use Rattle.sparse_poly.specs.declared.Term.{Term}
use Rattle.leaf_cert.specs.Parts.{LeafParts}
use Rattle.leaf_cert.specs.declared.certificate.RawEntry.{RawEntry}
use Rattle.leaf_cert.specs.declared.certificate.RawEntry.TheVariants.{Close}
use Rattle.case_rules.specs.Cases.{CaseState, root_case}
use Rattle.case_rules.specs.Ends.{IsEnd}
use Rattle.case_rules.specs.declared.outcome.Outcome.TheVariants.{Split, Leaf as leaf_end}
use Rattle.case_history.specs.History.{publish, fate, IsPending}
use Rattle.legal_history.specs.Legal.{IsCase}

-- the second case is at or under the first: it is the same, or a branch of one that is
pub data IsUnder (root : List (List Term)) (budget : ℕ) (top : CaseState) : CaseState → Type 0 where
  here : IsUnder root budget top top
  zero_of : (c zero nonzero : CaseState) (by : List Term) → IsUnder root budget top c → IsEnd root budget c (Split by zero nonzero) → IsUnder root budget top zero
  nonzero_of : (c zero nonzero : CaseState) (by : List Term) → IsUnder root budget top c → IsEnd root budget c (Split by zero nonzero) → IsUnder root budget top nonzero

-- the case stands in the plain tree
abbrev pub IsInTree : List (List Term) → ℕ → CaseState → Type 0
IsInTree root budget c = IsUnder root budget (root_case root) c

-- the leaf is the end of a case of the plain tree
pub record IsTreeLeaf (root : List (List Term)) (budget : ℕ) (l : LeafParts) : Type 0 where
  pub c : CaseState
  pub in_tree : IsInTree root budget c
  pub is_end : IsEnd root budget c (leaf_end l)

-- case n is closed by a posted pattern
pub record IsClosed (h : List RawEntry) (n : ℕ) : Type 0 where
  pub k : ℕ
  pub place : ℕ
  pub is : fate h n ≡ Some (record { place = place; entry = Close n k })

-- the case lies at or under case n, which is pending or closed
pub record IsUnderOpen (root : List (List Term)) (budget : ℕ) (h : List RawEntry) (c : CaseState) : Type 0 where
  pub n : ℕ
  pub top : CaseState
  pub is_case : IsCase root budget h n top
  pub is_open : IsPending h n ⊎ IsClosed h n
  pub under : IsUnder root budget top c

-- the leaf was published
pub record IsPublished (h : List RawEntry) (l : LeafParts) : Type 0 where
  pub n : ℕ
  pub place : ℕ
  pub is : fate h n ≡ Some (record { place = place; entry = publish n l })

-- each published leaf is one of the plain tree, and each leaf of the plain tree is published or lies at or under a case that is pending or closed
pub record AreTreeLeaves (root : List (List Term)) (budget : ℕ) (h : List RawEntry) : Type 0 where
  pub published : (l : LeafParts) → IsPublished h l → IsTreeLeaf root budget l
  pub all : (c : CaseState) (l : LeafParts) → IsInTree root budget c → IsEnd root budget c (leaf_end l) → IsPublished h l ⊎ IsUnderOpen root budget h c
