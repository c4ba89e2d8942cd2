use Rattle.std.proofs.Common.{take}
use Rattle.sparse_poly.specs.Factors.{IsCommonDivisor}
use Rattle.sparse_poly.proofs.stripping.common_divisor.Given as goal

abbrev pub invariant-loop-term : goal.invariant-loop-term
invariant-loop-term l = IsCommonDivisor (take l.term-index l.terms) l.divisor
