use Rattle.std.proofs.Common.{sym, subst}
use Rattle.std.specs.Prelude.{◌↔◌, IfOk, IsTrue}
use Rattle.leaf_cert.specs.Leaves.{IsStoppedStep}
use Rattle.leaf_cert.specs.Limits.{IsOver}
use Rattle.leaf_cert.specs.declared.ends.StepKind.{StepKind}
use Rattle.leaf_cert.proofs.ending.is_stopped.Goals as goal

pub returns-in-Reduce : goal.returns-in-Reduce
returns-in-Reduce c = subst (λ (k : StepKind). IfOk c.is_stopped_reduction.result (λ b. IsTrue b ↔ IsStoppedStep c.args.equations.now c.args.units.now k c.args.stop.now.v c.args.stop.now.q c.args.stop.now.p (IsOver c.args.limit))) (sym c.in-Reduce.is) c.is_stopped_reduction.ensures

pub returns-in-Tail : goal.returns-in-Tail
returns-in-Tail c = subst (λ (k : StepKind). IfOk c.is_stopped_tail.result (λ b. IsTrue b ↔ IsStoppedStep c.args.equations.now c.args.units.now k c.args.stop.now.v c.args.stop.now.q c.args.stop.now.p (IsOver c.args.limit))) (sym c.in-Tail.is) c.is_stopped_tail.ensures
