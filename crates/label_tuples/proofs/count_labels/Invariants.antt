use Rattle.std.proofs.Common.{◌≤◌}
use Rattle.label_tuples.specs.Extended.{IsCount}
use Rattle.label_tuples.proofs.count_labels.Given as goal

abbrev pub invariant-loop-label : goal.invariant-loop-label
invariant-loop-label g l = (l.count ≤ l.label) × IsCount (goal.F-post g l.passes) l.label l.count
