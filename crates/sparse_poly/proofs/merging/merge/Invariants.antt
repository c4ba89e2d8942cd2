use Rattle.std.proofs.Common.{length, ◌+◌, ◌≤◌}
use Rattle.std.specs.Vec.{vec_len, vec_capacity}
use Rattle.sparse_poly.proofs.Merges.{Merging}
use Rattle.sparse_poly.proofs.merging.merge.Given as goal

abbrev pub invariant-both : goal.invariant-both
invariant-both l = record {
  merging : Merging l.fn.first.items l.fn.second.items l.first.items l.second.items l.shares.items;
  room : vec_len l.shares + (length l.first.items + length l.second.items) ≤ vec_capacity l.shares;
}

abbrev pub decreases-both : goal.decreases-both
decreases-both l = length l.first.items + length l.second.items
