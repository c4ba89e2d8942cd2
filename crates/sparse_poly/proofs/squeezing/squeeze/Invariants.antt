use Rattle.std.proofs.Common.{length, ◌+◌, ◌≤◌, ◌++◌}
use Rattle.std.specs.Vec.{vec_len, vec_capacity}
use Rattle.sparse_poly.specs.Standing.{IsDescending}
use Rattle.sparse_poly.proofs.Squeezes.{Squeezed}
use Rattle.sparse_poly.proofs.squeezing.squeeze.Given as goal

abbrev pub invariant-shares : goal.invariant-shares
invariant-shares l = record {
  squeezed : Squeezed (l.fn.first.items ++ l.fn.second.items) (l.first.items ++ l.second.items) l.terms.items;
  first : IsDescending l.first.items;
  second : IsDescending l.second.items;
  room : vec_len l.terms + (length l.first.items + length l.second.items) ≤ vec_capacity l.terms;
}

abbrev pub decreases-shares : goal.decreases-shares
decreases-shares l = length l.first.items + length l.second.items
