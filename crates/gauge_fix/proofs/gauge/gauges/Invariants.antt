use Rattle.std.proofs.Common.{take}
use Rattle.gauge_fix.specs.Gauge.{AreGaugeDifferences}
use Rattle.gauge_fix.proofs.gauge.gauges.Given as goal

abbrev pub invariant-loop-entry : goal.invariant-loop-entry
invariant-loop-entry l = AreGaugeDifferences l.symbols (take l.entry-index l.gauge) l.differences.items
