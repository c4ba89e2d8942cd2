use Rattle.std.proofs.Common.{length, ◌+◌, ◌≤◌, ◌++◌}
use Rattle.std.specs.Vec.{vec_len, vec_capacity}
use Rattle.sparse_poly.specs.Contributions.{higher}
use Rattle.sparse_poly.specs.Standing.{left_shares, left_degree}
use Rattle.sparse_poly.proofs.RowShares.{AreMade}
use Rattle.sparse_poly.proofs.multiplying.Row.add_to.Given as goal

abbrev pub invariant-others : goal.invariant-others
invariant-others l = record {
  made : AreMade (l.initial.shares.items ++ left_shares l.initial.self) (higher l.initial.high (left_degree l.initial.self)) l.high l.self l.shares.items;
  room : vec_len l.shares + length l.self.others.now ≤ vec_capacity l.shares;
}

abbrev pub decreases-others : goal.decreases-others
decreases-others l = length l.self.others.now
