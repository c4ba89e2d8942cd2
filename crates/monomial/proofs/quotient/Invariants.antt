use Rattle.std.proofs.Common.{◌≡◌, ◌≤◌, ◌-◌, drop, ◌++◌, length}
use Rattle.monomial.specs.Monomials.{lowered}
use Rattle.monomial.proofs.quotient.Given as goal

abbrev pub invariant-powers : goal.invariant-powers
invariant-powers l = record {
  inside : l.i ≤ length l.powers;
  same : lowered l.powers l.divisor ≡ l.left ++ lowered (drop l.i l.powers) l.divisor;
}

abbrev pub decreases-powers : goal.decreases-powers
decreases-powers l = length l.powers - l.i
