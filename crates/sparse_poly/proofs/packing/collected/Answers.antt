use Rattle.sparse_poly.proofs.PackedSources.{Collecting-start, Collecting-more, Collecting-same, Collecting-falls, none_left}
use Rattle.sparse_poly.proofs.packing.collected.Goals as goal

pub shares-init : goal.shares-init
shares-init g c = record { collecting = rw c.in_ok-list.ensures.items (Collecting-start _); falls = c.requires }

pub shares-preserved : goal.shares-preserved
shares-preserved g c = record {
  collecting = rw c.in_ok-push.ensures.items (Collecting-more _ _ _ _ c.in-Some.share c.shares.invariant.collecting c.in-Some.ensures.next);
  falls = c.in-Some.ensures.falls;
}

pub returns-clause-same : goal.returns-clause-same
returns-clause-same g c = Collecting-same _ _ _ c.shares.invariant.collecting (none_left _ _ c.next.result c.in_default.not-Some c.next.ensures.next)

pub returns-clause-falls : goal.returns-clause-falls
returns-clause-falls g c = Collecting-falls _ _ _ c.shares.invariant.collecting
