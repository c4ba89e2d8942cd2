use Rattle.std.proofs.Common.{◌≡◌, drop, ◌++◌}
use Rattle.sparse_poly.specs.Reads.{coefficient_of_power}
use Rattle.sparse_poly.proofs.stripping.terms_of_power.Given as goal

abbrev pub invariant-loop-term : goal.invariant-loop-term
invariant-loop-term l = coefficient_of_power l.var l.exp l.terms ≡ l.found.items ++ coefficient_of_power l.var l.exp (drop l.term-index l.terms)
