use Rattle.std.proofs.Common.{◌<◌, drop}
use Rattle.sparse_poly.specs.Reads.{degree_in}
use Rattle.sparse_poly.proofs.dividing.has_exponent.Given as goal

abbrev pub invariant-loop-term : goal.invariant-loop-term
invariant-loop-term l = degree_in l.var (drop l.term-index l.terms) < l.least → degree_in l.var l.terms < l.least
