use Rattle.std.proofs.Common.{drop}
use Rattle.example_tests.specs.Roots.{IsBelowAll}
use Rattle.example_tests.proofs.roots.is_below_all.Given as goal

abbrev pub invariant-loop-other : goal.invariant-loop-other
invariant-loop-other l = IsBelowAll l.poly (drop l.other-index l.others) → IsBelowAll l.poly l.others
