use Rattle.std.proofs.Common.{length, ◌+◌, ◌-◌, ◌≤◌}
use Rattle.std.specs.Vec.{vec_len, vec_capacity}
use Rattle.sparse_poly.proofs.Packings.{PackedMerging}
use Rattle.sparse_poly.proofs.packing.merge.Given as goal

abbrev pub invariant-both : goal.invariant-both
invariant-both l = record {
  merging : PackedMerging l.first l.second l.i l.j l.shares.items;
  room : vec_len l.shares + ((length l.first - l.i) + (length l.second - l.j)) ≤ vec_capacity l.shares;
}

abbrev pub decreases-both : goal.decreases-both
decreases-both l = (length l.first - l.i) + (length l.second - l.j)
