use Rattle.case_split.proofs.Ordered.{Have}
use Rattle.case_split.proofs.pairs.first_with.Given as goal

abbrev pub invariant-equations : goal.invariant-equations
invariant-equations l = Have l.case l.var l.i l.p

abbrev pub decreases-equations : goal.decreases-equations
decreases-equations l = l.p
