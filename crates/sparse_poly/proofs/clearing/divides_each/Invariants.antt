use Rattle.std.proofs.Common.{take}
use Rattle.sparse_poly.specs.Clearing.{IsDividedBy}
use Rattle.sparse_poly.proofs.clearing.divides_each.Given as goal

abbrev pub invariant-loop-term : goal.invariant-loop-term
invariant-loop-term l = IsDividedBy l.var (take l.term-index l.terms)
