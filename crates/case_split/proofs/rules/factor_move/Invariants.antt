use Rattle.std.specs.Prelude.{ℕ, ◌<◌}
use Rattle.case_rules.specs.Rules.{IsFactorAt}
use Rattle.case_split.proofs.rules.factor_move.Given as goal

abbrev pub invariant-loop-i : goal.invariant-loop-i
invariant-loop-i l = (j : ℕ) → j < l.i → ¬ IsFactorAt l.case j
