use Rattle.std.proofs.Common.{length}
use Rattle.sparse_poly.proofs.PackedSources.{Collecting}
use Rattle.sparse_poly.proofs.packing.collected.Given as goal

abbrev pub invariant-shares : goal.invariant-shares
invariant-shares g l = record {
  collecting : Collecting (g.S.FallingShares.left l.fn.shares) (g.S.FallingShares.left l.shares) l.list.items;
  falls : g.S.FallingShares.falls l.shares;
}

abbrev pub decreases-shares : goal.decreases-shares
decreases-shares g l = length (g.S.FallingShares.left l.shares)
