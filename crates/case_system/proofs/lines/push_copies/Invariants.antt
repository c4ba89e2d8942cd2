use Rattle.std.proofs.Common.{◌≡◌, ◌++◌, take}
use Rattle.case_system.proofs.lines.push_copies.Given as goal

abbrev pub invariant-loop-line : goal.invariant-loop-line
invariant-loop-line l = l.into.items ≡ l.initial.into.items ++ take l.line-index l.lines
