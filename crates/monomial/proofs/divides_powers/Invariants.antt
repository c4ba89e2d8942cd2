use Rattle.std.proofs.Common.{◌≡◌, ◌≤◌, ◌-◌, drop, length}
use Rattle.monomial.specs.Monomials.{each_divides}
use Rattle.monomial.proofs.divides_powers.Given as goal

abbrev pub invariant-powers : goal.invariant-powers
invariant-powers l = record {
  inside : l.i ≤ length l.divisor;
  same : each_divides (drop l.i l.divisor) l.powers ≡ each_divides l.divisor l.powers;
}

abbrev pub decreases-powers : goal.decreases-powers
decreases-powers l = length l.divisor - l.i
