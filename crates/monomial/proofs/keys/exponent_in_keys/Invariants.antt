use Rattle.std.proofs.Common.{◌≡◌, drop, map}
use Rattle.monomial.specs.Keys.{power_of}
use Rattle.monomial.specs.Monomials.{exponent}
use Rattle.monomial.proofs.keys.exponent_in_keys.Given as goal

abbrev pub invariant-loop-key : goal.invariant-loop-key
invariant-loop-key l = exponent (map power_of (drop l.key-index l.keys)) l.var ≡ exponent (map power_of l.keys) l.var
