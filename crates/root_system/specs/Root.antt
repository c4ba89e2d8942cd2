-- The root of a problem: all its equations as one ascending list of polynomials.
use Rattle.std.specs.Prelude.{◌≡◌, ◌<◌, ◌≤◌, ℕ, List, ◌++◌, length}
use Rattle.std.specs.List.Sorted.{IsStrictlySortedBy}
use Rattle.sparse_poly.specs.declared.Term.{Term}
use Rattle.sparse_poly.specs.Order.{poly_cmp}
use Rattle.symbol_index.specs.Symbols.{unknowns, max_unknowns}
use Rattle.pentagon_gen.specs.Differences.{ArePentagonDifferences}
use Rattle.hexagon_gen.specs.Differences.{AreHexagonDifferences}
use Rattle.gauge_fix.specs.Inverses.{AreInverseDifferences}
use Rattle.gauge_fix.specs.Gauge.{AreGaugeDifferences}
use Rattle.ring_file.specs.Problems.{Stated}
use Rattle.root_system.specs.Forms.{RootEquations}
use Rattle.root_system.specs.PrimitiveParts.{ArePrimitiveParts}
use Rattle.root_system.specs.declared.root.RootFault.{RootFault}
use Rattle.root_system.specs.declared.root.RootFault.TheVariants.{TooManyUnknowns, TooManyEquations, OutOfMemory}

-- the differences of both sides of all equations of a problem
pub record AreDifferencesOf (p : Stated) (ds : List (List Term)) : Type 0 where
  pub pentagons : List (List Term)
  pub hexagons : List (List Term)
  pub inverses : List (List Term)
  pub gauges : List (List Term)
  pub are_pentagons : ArePentagonDifferences p.ring pentagons
  pub are_hexagons : AreHexagonDifferences p.ring hexagons
  pub are_inverses : AreInverseDifferences p.ring inverses
  pub are_gauges : AreGaugeDifferences p.ring p.gauge gauges
  pub all : ds ≡ pentagons ++ hexagons ++ inverses ++ gauges

-- the differences, made primitive, without zero and repeats, in ascending order
pub record AreRootEquations (p : Stated) (qs : List (List Term)) : Type 0 where
  pub differences : List (List Term)
  pub are_differences : AreDifferencesOf p differences
  pub are_parts : ArePrimitiveParts differences qs
  pub ascending : IsStrictlySortedBy poly_cmp qs

-- the root of the problem, with at most `limit` equations
pub record IsRootOf (p : Stated) (limit : ℕ) (root : RootEquations) : Type 0 where
  pub unknowns_are : root.unknowns ≡ length (unknowns p.ring)
  pub few_unknowns : root.unknowns ≤ max_unknowns
  pub are_equations : AreRootEquations p root.equations
  pub few_equations : length root.equations ≤ limit

-- the unknowns are too many, or else the equations, and their number
abbrev pub IsRootFault : Stated → ℕ → RootFault → Type 0
IsRootFault p limit (TooManyUnknowns count) = (count ≡ length (unknowns p.ring)) × (max_unknowns < count)
IsRootFault p limit (TooManyEquations count) = (length (unknowns p.ring) ≤ max_unknowns) × (limit < count) × ((qs : List (List Term)) × AreRootEquations p qs × (count ≡ length qs))
IsRootFault p limit OutOfMemory = Unit {0}
