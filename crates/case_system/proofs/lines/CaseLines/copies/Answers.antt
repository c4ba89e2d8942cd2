use Rattle.std.proofs.Common.{rules}
use Rattle.case_system.proofs.Joining.{joined_next}
use Rattle.case_system.proofs.lines.CaseLines.copies.Goals as goal

pub loop-segment-preserved : goal.loop-segment-preserved
loop-segment-preserved c = joined_next c.deref-segment-items.result.now c.loop-segment.segment-index c.segment-item.result c.loop-segment.copies.items _ c.loop-segment.invariant (search rules) (search rules) (search rules)
