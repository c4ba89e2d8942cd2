use Rattle.pseudo_rem.specs.Remainders.{rest_of, AreNextSteps}
use Rattle.pseudo_rem.proofs.Scans.{bound, digits}
use Rattle.pseudo_rem.proofs.remainders.remainder.Given as goal

abbrev pub invariant-steps : goal.invariant-steps
invariant-steps l = AreNextSteps l.units l.list l.n l.steps.items

abbrev pub decreases-steps : goal.decreases-steps
decreases-steps l = digits (bound l.list) (rest_of l.n l.steps.items)
