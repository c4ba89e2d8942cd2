use Rattle.std.proofs.Common.{◌≡◌, ◌≤◌, ◌-◌, drop, length}
use Rattle.monomial.specs.Monomials.{monomial_cmp}
use Rattle.monomial.proofs.powers.Powers.order_by_power.Given as goal

abbrev pub invariant-powers : goal.invariant-powers
invariant-powers l = record {
  first_in : l.i ≤ length l.self;
  second_in : l.i ≤ length l.other;
  same : monomial_cmp (drop l.i l.self) (drop l.i l.other) ≡ monomial_cmp l.self l.other;
}

abbrev pub decreases-powers : goal.decreases-powers
decreases-powers l = length l.self - l.i
