use Rattle.std.proofs.Common.{◌≡◌, ◌≤◌, length, map, ◌+◌, ◌-◌}
use Rattle.monomial.specs.Keys.{power_of}
use Rattle.monomial.proofs.Steps.{Met}
use Rattle.monomial.proofs.keys.multiply_keys.Given as goal

abbrev pub invariant-both : goal.invariant-both
invariant-both g l = record {
  few : length l.product.items ≤ l.i + l.j;
  met : Met (map power_of l.first) (map power_of l.second) l.i l.j (map power_of l.product.items);
}

abbrev pub decreases-both : goal.decreases-both
decreases-both g l = (length l.first + length l.second) - (l.i + l.j)

abbrev pub invariant-left : goal.invariant-left
invariant-left g l = record {
  few : length l.product.items ≤ l.i + l.j;
  one_ended : (length l.first ≤ l.i → ⊥) → l.j ≡ length l.second;
  met : Met (map power_of l.first) (map power_of l.second) l.i l.j (map power_of l.product.items);
}

abbrev pub decreases-left : goal.decreases-left
decreases-left g l = length l.first - l.i

abbrev pub invariant-right : goal.invariant-right
invariant-right g l = record {
  few : length l.product.items ≤ l.i + l.j;
  first_ended : l.i ≡ length l.first;
  met : Met (map power_of l.first) (map power_of l.second) l.i l.j (map power_of l.product.items);
}

abbrev pub decreases-right : goal.decreases-right
decreases-right g l = length l.second - l.j
