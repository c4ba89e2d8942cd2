use Rattle.std.proofs.Common.{◌∷◌, ◌++◌, [], take, sym, subst}
use Rattle.case_system.specs.Facts.{HaveFacts}
use Rattle.case_system.proofs.Counting.{one_more_known, new_facts}
use Rattle.case_system.proofs.Placing.{take_this}
use Rattle.case_system.proofs.kept.new_facts.Goals as goal

pub loop-equation-preserved : goal.loop-equation-preserved
loop-equation-preserved c = λ units.
    subst (λ es. HaveFacts units es c.push.new.self.items) (sym (take_this c.args.equations.now c.loop-equation.equation-index c.equation-item.result c.loop-equation-test.true c.equation-item.is))
    (subst (HaveFacts units (take c.loop-equation.equation-index c.args.equations.now ++ c.equation-item.result ∷ [])) (sym c.in_ok-push.ensures.items)
    (one_more_known units _ _ _ _ (c.loop-equation.invariant units) (new_facts units c.equation-item.result.poly c.of.result c.of.ensures.clean c.of.ensures.outline)))
