-- The differences of both sides of the hexagons, as polynomials in the unknowns.
use Rattle.std.specs.Prelude.{IsTrue, ◌⊎◌, List}
use Rattle.sparse_poly.specs.declared.Term.{Term}
use Rattle.fusion_ring.specs.Fusion.{Fusion}
use Rattle.symbol_index.specs.declared.Symbol.{Symbol}
use Rattle.symbol_equations.specs.Differences.{EquationAt, AreDifferences}
use Rattle.hexagon_gen.specs.declared.Hexagon.{Hexagon}
use Rattle.hexagon_gen.specs.declared.Hexagon.TheVariants.{First, Second}
use Rattle.hexagon_gen.specs.Hexagons.{is_hexagon, left_side, right_side}

-- the sides of a hexagon of this kind
abbrev pub IsEquationOf : Fusion → Hexagon → List (List Symbol) → List (List Symbol) → Type 0
IsEquationOf r h = EquationAt (λ at. IsTrue (is_hexagon r at)) (left_side h) (right_side r h)

-- the sides of a first or a second hexagon
abbrev pub IsHexagonEquation : Fusion → List (List Symbol) → List (List Symbol) → Type 0
IsHexagonEquation r left right = IsEquationOf r First left right ⊎ IsEquationOf r Second left right

-- the polynomials are the differences of the hexagons, in any order and any number of times
abbrev pub AreHexagonDifferences : Fusion → List (List Term) → Type 0
AreHexagonDifferences r ps = AreDifferences r (IsHexagonEquation r) ps
