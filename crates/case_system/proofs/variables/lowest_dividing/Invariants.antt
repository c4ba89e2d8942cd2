use Rattle.std.specs.Prelude.{◌≤◌, length}
use Rattle.case_system.proofs.Dividing.{None_divides_from}
use Rattle.case_system.proofs.variables.lowest_dividing.Given as goal

abbrev pub invariant-powers : goal.invariant-powers
invariant-powers l = record {
  within : l.i ≤ length l.last.monomial;
  none : None_divides_from l.terms l.last.monomial l.i;
}

abbrev pub decreases-powers : goal.decreases-powers
decreases-powers l = l.i
