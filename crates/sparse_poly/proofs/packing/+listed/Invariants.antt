use Rattle.std.proofs.Common.{length}
use Rattle.sparse_poly.proofs.packing.+listed.Given as goal

abbrev pub decreases-listed : goal.decreases-listed
decreases-listed l = length l.ts.now
