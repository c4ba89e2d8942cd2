use Rattle.std.proofs.Common.{drop}
use Rattle.example_tests.proofs.Rooting.{AreRootPolys}
use Rattle.example_tests.proofs.roots.is_root_list.Given as goal

abbrev pub invariant-loop-i : goal.invariant-loop-i
invariant-loop-i l = AreRootPolys (drop l.i l.polys) → AreRootPolys l.polys
