use Rattle.std.specs.Prelude.{length}
use Rattle.case_split.proofs.LeadingBack.{AreLedBack}
use Rattle.case_split.proofs.conditions.push_back_lines.Given as goal

abbrev pub invariant-steps : goal.invariant-steps
invariant-steps l = AreLedBack l.case l.n l.fn.steps.items l.fn.lines.items l.left.items l.from l.lines.items

abbrev pub decreases-steps : goal.decreases-steps
decreases-steps l = length l.left.items
