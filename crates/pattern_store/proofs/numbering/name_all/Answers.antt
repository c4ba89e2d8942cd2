use Rattle.pattern_store.proofs.Places.{grows_on}
use Rattle.pattern_store.proofs.Literals.{take_item, named_more}
use Rattle.pattern_store.proofs.numbering.name_all.Goals as goal

pub loop-d-preserved : goal.loop-d-preserved
loop-d-preserved c = record {
  grows = grows_on _ _ _ c.loop-d.invariant.grows c.name.ensures.grows;
  named = rw (take_item c.args.decisions.now c.loop-d.d-index c.d-item.result c.loop-d-test.true c.d-item.is) (named_more _ _ _ c.d-item.result c.name.ensures.grows c.loop-d.invariant.named c.in_ok-name.ensures.ok);
}
