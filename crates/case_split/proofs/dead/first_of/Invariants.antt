use Rattle.std.specs.Prelude.{◌-◌}
use Rattle.case_split.proofs.Dying.{IsBetween}
use Rattle.case_split.proofs.dead.first_of.Given as goal

abbrev pub invariant-halves : goal.invariant-halves
invariant-halves l = IsBetween l.case l.poly l.n l.low l.high

abbrev pub decreases-halves : goal.decreases-halves
decreases-halves l = l.high - l.low
