use Rattle.derive_lines.specs.Lines.{AreGoodBefore}
use Rattle.derive_lines.proofs.check.check_lines.Given as goal

abbrev pub invariant-loop-k : goal.invariant-loop-k
invariant-loop-k l = AreGoodBefore l.root l.decisions l.lines l.k
