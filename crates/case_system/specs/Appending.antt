-- What is appended to the lines of a case.
use Rattle.std.specs.Prelude.{◌≡◌, ◌≢◌, List, [], ◌∷◌, ◌++◌, length}
use Rattle.sparse_poly.specs.declared.Term.{Term}
use Rattle.sparse_poly.specs.Units.{IsStripped}
use Rattle.derive_lines.specs.declared.parts.Line.{Line}
use Rattle.case_rules.specs.declared.equation.Equation.{Equation}
use Rattle.case_rules.specs.Clearings.{made, quotient_line, IsClearing, AreCleared, AreStripped}
use Rattle.case_system.specs.CaseLines.{LinesState}

-- there are more lines that are the case's own
pub record Grows (before now : LinesState) : Type 0 where
  pub more : List Line
  pub is : now.own ≡ before.own ++ more
  pub shared : now.shared ≡ before.shared

-- an equation is cleared, and the lines for it are appended
pub record IsClearedBy (units : List (List Term)) (before : List Line) (e : Equation) (now : List Line) (f : Equation) : Type 0 where
  pub more : List Line
  pub is : now ≡ before ++ more
  pub clearing : IsClearing units (length before) e more f

-- equations are cleared, and the lines for them are appended
pub record AreClearedBy (units : List (List Term)) (before : List Line) (es : List Equation) (now : List Line) (fs : List Equation) : Type 0 where
  pub more : List Line
  pub is : now ≡ before ++ more
  pub clearing : AreCleared units (length before) es more fs

-- an equation is stripped, and where it changes a line for it is appended
pub data IsStrippedBy (units : List (List Term)) (before : List Line) (e : Equation) : List Line → Equation → Type 0 where
  same : (m : List Term) → IsStripped units e.poly m e.poly → IsStrippedBy units before e before e
  changed : (m rest : List Term) → IsStripped units e.poly m rest → rest ≢ e.poly → IsStrippedBy units before e (before ++ quotient_line e.item m rest ∷ []) (made rest (length before))

-- equations are stripped, and the lines for them are appended
pub record AreStrippedBy (units : List (List Term)) (before : List Line) (es : List Equation) (now : List Line) (fs : List Equation) : Type 0 where
  pub more : List Line
  pub is : now ≡ before ++ more
  pub stripping : AreStripped units (length before) es more fs
