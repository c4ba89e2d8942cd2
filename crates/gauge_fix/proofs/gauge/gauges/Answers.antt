use Rattle.std.proofs.lemmas.List.{get_or_default}
use Rattle.gauge_fix.proofs.Fixed.{fixed_more}
use Rattle.gauge_fix.proofs.gauge.gauges.Goals as goal

pub loop-entry-preserved : goal.loop-entry-preserved
loop-entry-preserved c =
    fixed_more c.args.symbols.now c.args.gauge.now c.loop-entry.entry-index _ c.loop-entry.differences.items c.push.new.self.items c.in_ok-gauge_difference.field-0
    c.loop-entry-test.true (get_or_default c.args.gauge.now c.loop-entry.entry-index _ _ c.loop-entry-test.true) c.in_ok-push.ensures.items c.loop-entry.invariant c.in_ok-gauge_difference.ensures
