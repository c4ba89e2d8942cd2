use Rattle.std.proofs.Common.{length, ◌+◌, ◌≤◌}
use Rattle.std.specs.Vec.{vec_len, vec_capacity}
use Rattle.sparse_poly.specs.Contributions.{signed_row, higher, degree_of}
use Rattle.sparse_poly.specs.Standing.{product_shares, row_share}
use Rattle.sparse_poly.proofs.RowShares.{ArePaired}
use Rattle.sparse_poly.proofs.multiplying.pair_of.Given as goal

abbrev pub invariant-both : goal.invariant-both
invariant-both l = record {
  paired : ArePaired (product_shares l.fn.minus l.fn.t l.fn.us) (product_shares l.fn.minus l.fn.s l.fn.us) (higher (higher l.fn.high (degree_of (signed_row l.fn.minus l.fn.t l.fn.us))) (degree_of (signed_row l.fn.minus l.fn.s l.fn.us))) l.high l.going l.waiting (row_share l.waiting l.held) l.shares.items;
  room : vec_len l.shares + (length l.going.others.now + length l.waiting.others.now) + 1 ≤ vec_capacity l.shares;
}

abbrev pub decreases-both : goal.decreases-both
decreases-both l = length l.going.others.now + length l.waiting.others.now
