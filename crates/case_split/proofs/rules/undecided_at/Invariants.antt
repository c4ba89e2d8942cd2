use Rattle.std.specs.Prelude.{ℕ, ◌<◌}
use Rattle.char_set.specs.Triangular.{IsDecided}
use Rattle.case_rules.specs.Cases.{known, poly}
use Rattle.case_split.proofs.rules.undecided_at.Given as goal

abbrev pub invariant-loop-i : goal.invariant-loop-i
invariant-loop-i l = (j : ℕ) → j < l.i → IsDecided (known l.case) (poly l.case j)
