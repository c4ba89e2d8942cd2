-- Equations with their counts, as they are cleared.
use Rattle.std.specs.Prelude.{◌≡◌, List, [], map}
use Rattle.sparse_poly.specs.declared.Term.{Term}
use Rattle.derive_lines.specs.declared.parts.Line.{Line}
use Rattle.case_rules.specs.declared.equation.Equation.{Equation}
use Rattle.case_rules.specs.Kept.{all_added}
use Rattle.case_system.specs.declared.kept.Kept.{Kept}
use Rattle.case_system.specs.Appending.{AreClearedBy}

-- the equations without their counts
abbrev pub equations_of : List Kept → List Equation
equations_of ks = map (λ (k : Kept). k.equation) ks

-- equations are cleared, the lines for them are appended, and each is added to those before it
pub record AreAddedCleared (units : List (List Term)) (before : List Line) (es : List Equation) (now : List Line) (fs : List Equation) : Type 0 where
  pub cleared : List Equation
  pub are_cleared : AreClearedBy units before es now cleared
  pub is : fs ≡ all_added cleared []
