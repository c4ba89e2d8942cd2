use Rattle.std.proofs.Common.{sym, ◌∙◌, ap}
use Rattle.case_rules.specs.Kept.{item_of}
use Rattle.case_system.proofs.Placing.{drop_this, item_found, item_passed}
use Rattle.case_system.proofs.kept.item_of.Goals as goal

pub returns-then-is_same : goal.returns-then-is_same
returns-then-is_same c =
    sym (c.loop-equation.invariant ∙ ap (item_of c.args.poly.now c.args.other) (drop_this _ _ _ c.loop-equation-test.true c.equation-item.is) ∙ item_found c.args.poly.now c.args.other c.equation-item.result _ (c.is_same.ensures.0 c.if-is_same.true))

pub loop-equation-preserved : goal.loop-equation-preserved
loop-equation-preserved c =
    c.loop-equation.invariant ∙ ap (item_of c.args.poly.now c.args.other) (drop_this _ _ _ c.loop-equation-test.true c.equation-item.is) ∙ item_passed c.args.poly.now c.args.other c.equation-item.result _ (λ e. cc (sym c.if-is_same.false ∙ c.is_same.ensures.1 e))
