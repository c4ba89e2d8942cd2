use Rattle.std.proofs.Common.{◌≡◌, drop}
use Rattle.sparse_poly.specs.Factors.{least_exponent}
use Rattle.sparse_poly.proofs.stripping.least_exponent.Given as goal

abbrev pub invariant-loop-term : goal.invariant-loop-term
invariant-loop-term l = least_exponent l.power.0 l.least (drop l.term-index l.terms) ≡ least_exponent l.power.0 l.power.1 l.terms
