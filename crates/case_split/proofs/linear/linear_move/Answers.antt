use Rattle.std.proofs.Common.{rules, arith, ap}
use Rattle.std.specs.Prelude.{length, List}
use Rattle.case_rules.specs.declared.equation.Equation.{Equation}
use Rattle.case_split.proofs.Due.{none_more}
use Rattle.case_split.proofs.linear.linear_move.Goals as goal

pub equations-preserved : goal.equations-preserved
equations-preserved c = record { done = none_more _ _ c.equations.invariant.done (search rules); passed = c.in_default.ensures.passed }

pub returns-clause-due : goal.returns-clause-due
returns-clause-due c = λ i h. c.equations.invariant.done i (omega (arith, h.place, c.equations-test.false, c.len.ensures, ap (λ (es : List Equation). length es) c.equations-equations.ensures)) h
