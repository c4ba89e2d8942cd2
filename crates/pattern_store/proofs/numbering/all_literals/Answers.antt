use Rattle.std.proofs.Common.{◌∙◌, refl}
use Rattle.pattern_store.proofs.Literals.{take_item, set_skip, set_add}
use Rattle.pattern_store.proofs.numbering.all_literals.Goals as goal
use Rattle.pattern_store.proofs.numbering.all_literals.Goals.{then-d, else-d}

pub loop-d-preserved-in_default : goal.loop-d-preserved-in_default
loop-d-preserved-in_default c = rw (take_item c.args.decisions.now c.loop-d.d-index c.d-item.result c.loop-d-test.true c.d-item.is) (set_skip _ _ _ c.d-item.result c.in_default.ensures.place c.loop-d.invariant)

pub loop-d-preserved : goal.loop-d-preserved
loop-d-preserved c = rw (take_item c.args.decisions.now c.loop-d.d-index c.d-item.result c.loop-d-test.true c.d-item.is, c.in_ok-push.ensures.items)
    (set_add _ _ _ c.d-item.result c.in-Some.i _ c.in-Some.ensures.place (elim c.if-d.branch [ then-d w ↦ w.l-is ∙ rw w.if-d.true refl | else-d w ↦ w.l-is ∙ rw w.if-d.false refl ]) c.loop-d.invariant)
