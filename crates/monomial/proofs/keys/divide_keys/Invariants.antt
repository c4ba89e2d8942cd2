use Rattle.std.proofs.Common.{◌≡◌, ◌≤◌, drop, ◌++◌, map, length}
use Rattle.monomial.specs.Keys.{power_of}
use Rattle.monomial.specs.Monomials.{lowered}
use Rattle.monomial.proofs.keys.divide_keys.Given as goal

abbrev pub invariant-loop-key : goal.invariant-loop-key
invariant-loop-key l = record {
  same : lowered (map power_of l.keys) (map power_of l.divisor) ≡ map power_of l.quotient.items ++ lowered (map power_of (drop l.key-index l.keys)) (map power_of l.divisor);
  few : length l.quotient.items ≤ l.key-index;
}
