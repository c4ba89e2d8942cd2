use Rattle.std.proofs.Common.{◌≡◌, take}
use Rattle.sparse_poly.proofs.layout.without_layout.Given as goal

abbrev pub invariant-loop-term : goal.invariant-loop-term
invariant-loop-term l = l.listed.items ≡ take l.term-index l.terms
