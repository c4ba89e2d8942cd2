-- A case of the search: decisions, equations with the items that they are derived as, lines and moves.
use Rattle.std.specs.Prelude.{ℕ, ◌+◌, List, [], ◌∷◌, length, map, slice_index_or}
use Rattle.sparse_poly.specs.declared.Term.{Term}
use Rattle.derive_lines.specs.declared.parts.Decision.{Decision}
use Rattle.derive_lines.specs.declared.parts.Item.TheVariants as item
use Rattle.derive_lines.specs.declared.parts.Line.{Line}
use Rattle.derive_lines.specs.Lines.{conditions}
use Rattle.case_rules.specs.declared.equation.Equation.{Equation}

pub record CaseState : Type 0 where
  pub decisions : List Decision
  pub equations : List Equation
  pub lines : List Line
  pub moves : ℕ

-- the root equations as equations, the first as that of number k
abbrev pub numbered : ℕ → List (List Term) → List Equation
numbered k [] = []
numbered k (p ∷ ps) = record { poly = p; item = item.Root k } ∷ numbered (k + 1) ps

-- the root case: the root equations, no decision, no line and no move
abbrev pub root_case : List (List Term) → CaseState
root_case root = record { decisions = []; equations = numbered 0 root; lines = []; moves = 0 }

-- the known conditions of a case
abbrev pub known : CaseState → List (List Term)
known c = conditions c.decisions

abbrev pub no_equation : Equation
no_equation = record { poly = []; item = item.Root 0 }

-- the equation at a place, its polynomial, and the number of equations
abbrev pub equation_at : List Equation → ℕ → Equation
equation_at es i = slice_index_or es i no_equation

abbrev pub equation : CaseState → ℕ → Equation
equation c i = equation_at c.equations i

abbrev pub poly : CaseState → ℕ → List Term
poly c i = (equation c i).poly

abbrev pub count : CaseState → ℕ
count c = length c.equations

-- the polynomials of equations
abbrev pub polys_of : List Equation → List (List Term)
polys_of es = map (λ (e : Equation). e.poly) es

abbrev pub polys : CaseState → List (List Term)
polys c = polys_of c.equations
