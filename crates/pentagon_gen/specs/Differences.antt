-- The differences of both sides of the pentagons, as polynomials in the unknowns.
use Rattle.std.specs.Prelude.{IsTrue, List}
use Rattle.sparse_poly.specs.declared.Term.{Term}
use Rattle.fusion_ring.specs.Fusion.{Fusion}
use Rattle.symbol_index.specs.declared.Symbol.{Symbol}
use Rattle.symbol_equations.specs.Differences.{EquationAt, AreDifferences}
use Rattle.pentagon_gen.specs.Pentagon.{is_pentagon, left_side, right_side}

-- the sides of a pentagon
abbrev pub IsPentagonEquation : Fusion → List (List Symbol) → List (List Symbol) → Type 0
IsPentagonEquation r = EquationAt (λ at. IsTrue (is_pentagon r at)) left_side (right_side r)

-- the polynomials are the differences of the pentagons, in any order and any number of times
abbrev pub ArePentagonDifferences : Fusion → List (List Term) → Type 0
ArePentagonDifferences r ps = AreDifferences r (IsPentagonEquation r) ps
