use Rattle.std.proofs.Common.{ℕ, ◌<◌, ◌⊎◌}
use Rattle.monomial.specs.Monomials.{exponent}
use Rattle.monomial.specs.Readings.{left_powers}
use Rattle.case_system.specs.Outlines.{HasBit}
use Rattle.case_system.proofs.outline.bits_of.Given as goal

abbrev pub invariant-loop-var : goal.invariant-loop-var
invariant-loop-var l = (v : ℕ) → 0 < exponent l.monomial v → HasBit l.bits v ⊎ (0 < exponent (left_powers l.var-iterator) v)
