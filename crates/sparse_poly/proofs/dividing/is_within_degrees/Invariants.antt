use Rattle.std.proofs.Common.{◌-◌, length}
use Rattle.sparse_poly.proofs.dividing.is_within_degrees.Given as goal

abbrev pub decreases-powers : goal.decreases-powers
decreases-powers l = length l.monomial - l.i
