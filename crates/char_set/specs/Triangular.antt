-- Initials, and triangular lists.
use Rattle.std.specs.Prelude.{◌≡◌, ℕ, List, All, slice_get}
use Rattle.std.specs.declared.option.Option.{Option}
use Rattle.std.specs.declared.option.Option.TheVariants.{None, Some}
use Rattle.sparse_poly.specs.declared.Term.{Term}
use Rattle.sparse_poly.specs.Reads.{main_variable, leading_in, HaveMainVariables}
use Rattle.sparse_poly.specs.Clearing.{IsUnit}

-- the coefficient of the highest power of the main variable, and a constant itself
abbrev pub initial_in : Option ℕ → List Term → List Term
initial_in None p = p
initial_in (Some v) p = leading_in v p

abbrev pub initial : List Term → List Term
initial p = initial_in (main_variable p) p

-- the initial is a unit
abbrev pub IsDecided : List (List Term) → List Term → Type 0
IsDecided units p = IsUnit units (initial p)

-- no equation is constant, main variables differ, and each equation is decided
pub record IsTriangular (equations units : List (List Term)) : Type 0 where
  pub main : HaveMainVariables equations
  pub decided : All (IsDecided units) equations

-- a variable is the main one of a member
pub record IsMainOf (list : List (List Term)) (v : ℕ) : Type 0 where
  pub place : ℕ
  pub poly : List Term
  pub member : slice_get list place ≡ Some poly
  pub main : main_variable poly ≡ Some v
