-- Equations with known conditions divided out, and the lines for it. Lines are numbered from k on.
use Rattle.std.specs.Prelude.{◌≢◌, ℕ, ◌+◌, pos, List, [], ◌∷◌, ◌++◌, length}
use Rattle.std.specs.declared.option.Option.TheVariants.{None, Some}
use Rattle.sparse_poly.specs.declared.Term.{Term}
use Rattle.sparse_poly.specs.Polynomials.{constant}
use Rattle.sparse_poly.specs.Units.{IsStripped}
use Rattle.sparse_poly.specs.Clearing.{DividesOpenly, IsInForm}
use Rattle.derive_lines.specs.declared.parts.Item.{Item}
use Rattle.derive_lines.specs.declared.parts.Item.TheVariants as item
use Rattle.derive_lines.specs.declared.parts.Line.{Line}
use Rattle.derive_lines.specs.declared.parts.Way.TheVariants.{Fwd}
use Rattle.case_rules.specs.declared.equation.Equation.{Equation}

-- n, which is in form, divides p, which is not zero, openly with the quotient h
pub record Divides (n p h : List Term) : Type 0 where
  pub nonzero : p ≢ []
  pub in_form : IsInForm n
  pub quotient : DividesOpenly n p h

-- the line that divides an equation by m
abbrev pub quotient_line : Item → List Term → List Term → Line
quotient_line from m made = record { way = Fwd; from = Some from; by = None; l = constant (pos 1); a = []; m = m; made = made }

-- the equation that line k makes
abbrev pub made : List Term → ℕ → Equation
made p k = record { poly = p; item = item.Line k }

-- an equation is cleared: the conditions that are left are divided out in order, each as often as it divides, with a line each time
pub data IsClearing : List (List Term) → ℕ → Equation → List Line → Equation → Type 0 where
  end : (k : ℕ) (e : Equation) → IsClearing [] k e [] e
  next : (n : List Term) (ns : List (List Term)) (k : ℕ) (e : Equation) (lines : List Line) (e' : Equation) → ((h : List Term) → ¬ Divides n e.poly h) → IsClearing ns k e lines e' → IsClearing (n ∷ ns) k e lines e'
  once : (n : List Term) (ns : List (List Term)) (k : ℕ) (e : Equation) (h : List Term) (lines : List Line) (e' : Equation) → Divides n e.poly h → IsClearing (n ∷ ns) (k + 1) (made h k) lines e' → IsClearing (n ∷ ns) k e (quotient_line e.item n h ∷ lines) e'

-- equations are cleared, one after the other
pub data AreCleared (units : List (List Term)) : ℕ → List Equation → List Line → List Equation → Type 0 where
  end : (k : ℕ) → AreCleared units k [] [] []
  next : (k : ℕ) (e : Equation) (es : List Equation) (first : List Line) (e' : Equation) (lines : List Line) (es' : List Equation) → IsClearing units k e first e' → AreCleared units (k + length first) es lines es' → AreCleared units k (e ∷ es) (first ++ lines) (e' ∷ es')

-- equations are stripped, one after the other, with a line for each that changes
pub data AreStripped (units : List (List Term)) : ℕ → List Equation → List Line → List Equation → Type 0 where
  end : (k : ℕ) → AreStripped units k [] [] []
  same : (k : ℕ) (e : Equation) (es : List Equation) (m : List Term) (lines : List Line) (es' : List Equation) → IsStripped units e.poly m e.poly → AreStripped units k es lines es' → AreStripped units k (e ∷ es) lines (e ∷ es')
  changed : (k : ℕ) (e : Equation) (es : List Equation) (m rest : List Term) (lines : List Line) (es' : List Equation) → IsStripped units e.poly m rest → rest ≢ e.poly → AreStripped units (k + 1) es lines es' → AreStripped units k (e ∷ es) (quotient_line e.item m rest ∷ lines) (made rest k ∷ es')
