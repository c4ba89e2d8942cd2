use Rattle.std.proofs.Common.{◌≡◌, take}
use Rattle.case_system.specs.CaseLines.{joined}
use Rattle.case_system.proofs.lines.CaseLines.copies.Given as goal

abbrev pub invariant-loop-segment : goal.invariant-loop-segment
invariant-loop-segment l = l.copies.items ≡ joined (take l.segment-index l.segment-items)
