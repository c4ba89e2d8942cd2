use Rattle.std.proofs.Common.{take}
use Rattle.sparse_poly.specs.Factors.{IsQuotient}
use Rattle.sparse_poly.proofs.stripping.quotients.Given as goal

abbrev pub invariant-loop-term : goal.invariant-loop-term
invariant-loop-term l = IsQuotient (take l.term-index l.terms) (record { monomial = l.monomial; coeff = l.divisor }) l.rest.items
