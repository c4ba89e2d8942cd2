-- The numbers of decisions: a polynomial is numbered by its first place among names, and a decision by twice that, and one more where it is nonzero.
use Rattle.std.specs.Prelude.{◌≡◌, ◌<◌, ◌+◌, ◌*◌, ℕ, Bool, true, false, List, ◌++◌, Contains, slice_get}
use Rattle.std.specs.declared.option.Option.TheVariants.{Some}
use Rattle.sparse_poly.specs.declared.Term.{Term}
use Rattle.derive_lines.specs.declared.parts.Decision.{Decision}
use Rattle.refute_cert.specs.Parts.{RefutationParts}

-- the polynomial stands at place i, and not before
pub record IsPlace (names : List (List Term)) (poly : List Term) (i : ℕ) : Type 0 where
  pub is : slice_get names i ≡ Some poly
  pub first : (j : ℕ) → j < i → slice_get names j ≡ Some poly → ⊥

abbrev pub HasNoPlace : List (List Term) → List Term → Type 0
HasNoPlace names poly = (i : ℕ) → slice_get names i ≡ Some poly → ⊥

abbrev pub literal : ℕ → Bool → ℕ
literal i true = 2 * i
literal i false = 2 * i + 1

-- the number of the decision is l
pub record IsLiteral (names : List (List Term)) (d : Decision) (l : ℕ) : Type 0 where
  pub place : ℕ
  pub is_place : IsPlace names d.poly place
  pub is : l ≡ literal place d.zero

-- each decision has a number
abbrev pub AllNamed : List (List Term) → List Decision → Type 0
AllNamed names ds = (d : Decision) → Contains ds d → (l : ℕ) × IsLiteral names d l

-- the set has the numbers of the decisions that have one
pub record IsSetOf (names : List (List Term)) (set : List ℕ) (ds : List Decision) : Type 0 where
  pub each : (l : ℕ) → Contains set l → (d : Decision) × Contains ds d × IsLiteral names d l
  pub all : (d : Decision) (l : ℕ) → Contains ds d → IsLiteral names d l → Contains set l

-- the names go on
abbrev pub GrowsTo : List (List Term) → List (List Term) → Type 0
GrowsTo names new = (more : List (List Term)) × (new ≡ names ++ more)

-- the set has the numbers of the decisions, which all have one
pub record IsNumbered (names : List (List Term)) (set : List ℕ) (ds : List Decision) : Type 0 where
  pub set_of : IsSetOf names set ds
  pub named : AllNamed names ds

-- each stored set has the numbers of the decisions of its pattern
abbrev pub AreNumbered : List (List Term) → List (List ℕ × RefutationParts) → Type 0
AreNumbered names store = (k : ℕ) (p : List ℕ × RefutationParts) → slice_get store k ≡ Some p → IsNumbered names p.0 p.1.pattern
