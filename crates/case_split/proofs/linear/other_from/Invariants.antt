use Rattle.std.specs.Prelude.{ℕ, ◌<◌}
use Rattle.case_rules.specs.Rules.{IsOtherWith}
use Rattle.case_split.proofs.linear.other_from.Given as goal

abbrev pub invariant-loop-q : goal.invariant-loop-q
invariant-loop-q l = (j : ℕ) → j < l.q → ¬ IsOtherWith l.case l.fn.p l.fn.var j
