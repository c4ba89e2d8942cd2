use Rattle.std.proofs.Common.{◌≡◌, ◌≤◌, ◌-◌, length, drop}
use Rattle.sparse_poly.specs.Order.{poly_cmp}
use Rattle.sparse_poly.proofs.order_terms.Given as goal

abbrev pub invariant-terms : goal.invariant-terms
invariant-terms l = record {
  first_in : l.i ≤ length l.first;
  second_in : l.i ≤ length l.second;
  order : poly_cmp l.first l.second ≡ poly_cmp (drop l.i l.first) (drop l.i l.second);
}

abbrev pub decreases-terms : goal.decreases-terms
decreases-terms l = length l.first - l.i
