use Rattle.char_set.proofs.Distinct.{DifferTo}
use Rattle.char_set.proofs.have_main_variables.Given as goal

abbrev pub invariant-loop-i : goal.invariant-loop-i
invariant-loop-i l = DifferTo l.list l.i
