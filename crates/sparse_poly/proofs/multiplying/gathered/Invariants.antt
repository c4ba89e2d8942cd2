use Rattle.std.proofs.Common.{length}
use Rattle.sparse_poly.proofs.Rows.{Gathered}
use Rattle.sparse_poly.proofs.multiplying.gathered.Given as goal

abbrev pub invariant-terms : goal.invariant-terms
invariant-terms l = Gathered l.fn.terms.items l.terms.items l.shares.items

abbrev pub decreases-terms : goal.decreases-terms
decreases-terms l = length l.terms.items
