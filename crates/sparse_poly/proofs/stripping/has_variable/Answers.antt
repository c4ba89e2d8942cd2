use Rattle.std.proofs.Common.{sym, ◌∙◌}
use Rattle.sparse_poly.proofs.UnitMonomials.{test_is, is_member-later}
use Rattle.sparse_poly.proofs.stripping.has_variable.Goals as goal

pub loop-unit-preserved : goal.loop-unit-preserved
loop-unit-preserved c =
    let same = test_is c.is_variable.result c.unit-item.result _ (λ t. sym c.terms.ensures.value ∙ c.is_variable.ensures.0 t) (λ e. c.is_variable.ensures.1 (c.terms.ensures.value ∙ e)) in
    is_member-later c.args.units.now c.loop-unit.unit-index c.unit-item.result _ c.loop-unit-test.true c.unit-item.is (same ∙ c.if-is_variable.false) ∙ c.loop-unit.invariant
