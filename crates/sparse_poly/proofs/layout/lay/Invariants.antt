use Rattle.std.proofs.Common.{◌≡◌}
use Rattle.sparse_poly.proofs.layout.lay.Given as goal

abbrev pub invariant-loop-term : goal.invariant-loop-term
invariant-loop-term l = l.term-items ≡ l.fn.terms
