use Rattle.std.proofs.Common.{◌≡◌, ◌≤◌, ◌-◌, drop, ◌++◌, length}
use Rattle.monomial.specs.Monomials.{without}
use Rattle.monomial.proofs.other_powers.Given as goal

abbrev pub invariant-powers : goal.invariant-powers
invariant-powers l = record {
  inside : l.i ≤ length l.powers;
  same : without l.var l.powers ≡ l.left ++ without l.var (drop l.i l.powers);
}

abbrev pub decreases-powers : goal.decreases-powers
decreases-powers l = length l.powers - l.i
