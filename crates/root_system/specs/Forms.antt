-- The form of a root.
use Rattle.std.specs.Prelude.{◌≢◌, ◌≤◌, ℕ, List, [], length, All}
use Rattle.std.specs.List.Sorted.{IsStrictlySortedBy}
use Rattle.sparse_poly.specs.declared.Term.{Term}
use Rattle.sparse_poly.specs.Order.{poly_cmp}
use Rattle.sparse_poly.specs.Primitive.{IsPrimitive}
use Rattle.sparse_poly.specs.Reads.{HasVariablesBelow}
use Rattle.symbol_index.specs.Symbols.{max_unknowns}

-- a root: the number of unknowns and the equations
pub record RootEquations : Type 0 where
  pub unknowns : ℕ
  pub equations : List (List Term)

-- the greatest number of root equations
abbrev pub max_equations : ℕ
max_equations = 65536

-- the equation is primitive and not zero, and its variables are unknowns
pub record IsRootEquation (unknowns : ℕ) (q : List Term) : Type 0 where
  pub nonzero : q ≢ []
  pub primitive : IsPrimitive q
  pub below : HasVariablesBelow unknowns q

pub record IsRootForm (root : RootEquations) : Type 0 where
  pub few_unknowns : root.unknowns ≤ max_unknowns
  pub few_equations : length root.equations ≤ max_equations
  pub ascending : IsStrictlySortedBy poly_cmp root.equations
  pub each : All (IsRootEquation root.unknowns) root.equations
