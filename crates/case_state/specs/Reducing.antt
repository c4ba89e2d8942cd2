-- A reduction among equations under known conditions.
use Rattle.std.specs.Prelude.{◌≡◌, ℕ, ◌+◌, List, ◌∷◌, ◌++◌, length, remove}
use Rattle.std.specs.declared.option.Option.{Option}
use Rattle.pseudo_rem.specs.declared.steps.Reduction.{Reduction}
use Rattle.pseudo_rem.specs.Steps.{IsReduction}
use Rattle.derive_lines.specs.declared.parts.Line.{Line}
use Rattle.case_rules.specs.declared.equation.Equation.{Equation}
use Rattle.case_rules.specs.Cases.{equation_at}
use Rattle.case_rules.specs.Kept.{added}
use Rattle.case_rules.specs.Clearings.{made, IsClearing}
use Rattle.case_rules.specs.Branches.{step_line}
use Rattle.case_system.specs.Systems.{SystemState, with_equations}
use Rattle.case_system.specs.Places.{HasPlace}

-- equation q is reduced by equation p in v: the line of the step and those that clear what it makes are appended, and what is left takes the
-- place of q, at this place
pub record IsReducedBy (s : SystemState) (q p v : ℕ) (before now : List Line) (at : Option ℕ) (s' : SystemState) : Type 0 where
  pub step : Reduction
  pub reduction : IsReduction s.conditions (equation_at s.equations q).poly (equation_at s.equations p).poly v step
  pub lines : List Line
  pub rest : Equation
  pub clearing : IsClearing s.conditions (length before + 1) (made step.r (length before)) lines rest
  pub place : HasPlace rest.poly (remove s.equations q) at
  pub appended : now ≡ before ++ step_line (equation_at s.equations q).item (equation_at s.equations p).item step ∷ lines
  pub is : s' ≡ with_equations s (added rest (remove s.equations q))
