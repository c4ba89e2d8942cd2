use Rattle.std.proofs.Common.{◌≡◌, ◌++◌, length}
use Rattle.monomial.specs.Readings.{left_powers}
use Rattle.monomial.proofs.reading.pushed.Given as goal

abbrev pub invariant-powers : goal.invariant-powers
invariant-powers l = l.powers ++ left_powers l.left ≡ left_powers l.fn.left

abbrev pub decreases-powers : goal.decreases-powers
decreases-powers l = length (left_powers l.left)
