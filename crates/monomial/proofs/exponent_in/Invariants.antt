use Rattle.std.proofs.Common.{◌≡◌, ◌≤◌, ◌-◌, drop, length}
use Rattle.monomial.specs.Monomials.{exponent}
use Rattle.monomial.proofs.exponent_in.Given as goal

abbrev pub invariant-powers : goal.invariant-powers
invariant-powers l = record {
  inside : l.i ≤ length l.powers;
  same : exponent (drop l.i l.powers) l.var ≡ exponent l.powers l.var;
}

abbrev pub decreases-powers : goal.decreases-powers
decreases-powers l = length l.powers - l.i
