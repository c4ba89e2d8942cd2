use Rattle.std.proofs.Common.{length}
use Rattle.sparse_poly.proofs.RowShares.{IsPast}
use Rattle.sparse_poly.proofs.multiplying.Row.next_product.Given as goal

abbrev pub invariant-others : goal.invariant-others
invariant-others l = record {
  past : IsPast l.initial.self l.self l.initial.high l.high;
}

abbrev pub decreases-others : goal.decreases-others
decreases-others l = length l.self.others.now
