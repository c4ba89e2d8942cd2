use Rattle.std.proofs.Common.{length}
use Rattle.sparse_poly.proofs.merging.+sorted.Given as goal

abbrev pub decreases-sorted : goal.decreases-sorted
decreases-sorted l = length l.shares.items
