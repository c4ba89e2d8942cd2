use Rattle.std.proofs.Common.{◌≡◌, drop}
use Rattle.std.specs.Prelude.{◌+ℤ◌}
use Rattle.sparse_poly.specs.Signs.{value_at}
use Rattle.sparse_poly.proofs.signs.value_at.Given as goal

abbrev pub invariant-loop-term : goal.invariant-loop-term
invariant-loop-term l = l.value +ℤ value_at l.point (drop l.term-index l.terms) ≡ value_at l.point l.terms
