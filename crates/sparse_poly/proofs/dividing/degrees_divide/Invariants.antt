use Rattle.std.proofs.Common.{◌≤◌, ◌+◌, ◌-◌, length}
use Rattle.sparse_poly.proofs.dividing.degrees_divide.Given as goal

abbrev pub invariant-inner : goal.invariant-inner
invariant-inner l = (1 ≤ l.i) × (l.i ≤ length l.divisor + 1)

abbrev pub decreases-inner : goal.decreases-inner
decreases-inner l = length l.divisor - l.i
