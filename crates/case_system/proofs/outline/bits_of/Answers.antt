use Rattle.case_system.proofs.Outlining.{next_power}
use Rattle.case_system.proofs.outline.bits_of.Goals as goal

pub loop-var-preserved : goal.loop-var-preserved
loop-var-preserved c = λ v h. next_power v c.loop-var.bits _ (c.in-Some.var, c.in-Some.field-0-1) _ c.in-Some.ensures.steps (c.loop-var.invariant v h)
