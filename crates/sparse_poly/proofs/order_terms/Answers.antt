use Rattle.std.proofs.Common.{arith, sym, ◌∙◌}
use Rattle.sparse_poly.specs.Order.{term_cmp}
use Rattle.monomial.proofs.Ended.{ended_first, ended_second}
use Rattle.sparse_poly.proofs.order_terms.Goals.{then-terms-test+else-i-second, else-terms-test}
use Rattle.sparse_poly.proofs.order_terms.Goals as goal

pub returns : goal.returns
returns c =
    elim c.terms-test.branch [
      | then-terms-test+else-i-second w ↦ c.cmp.ensures ∙ sym (c.terms.invariant.order ∙ ended_second term_cmp _ _ c.terms.i c.terms.invariant.first_in (omega (arith, w.if-i-second.false, c.terms.invariant.second_in)))
      | else-terms-test w ↦ c.cmp.ensures ∙ sym (c.terms.invariant.order ∙ ended_first term_cmp _ _ c.terms.i (omega (arith, w.terms-test.false, c.terms.invariant.first_in)) c.terms.invariant.second_in)
    ]
