use Rattle.std.proofs.Common.{◌≡◌}
use Rattle.monomial.specs.Readings.{left_powers}
use Rattle.sparse_poly.specs.Signs.{both_minus, is_minus_monomial}
use Rattle.sparse_poly.proofs.signs.is_minus_monomial.Given as goal

abbrev pub invariant-loop-var : goal.invariant-loop-var
invariant-loop-var l = both_minus l.minus (is_minus_monomial l.point (left_powers l.var-iterator)) ≡ is_minus_monomial l.point l.monomial
