use Rattle.std.specs.Prelude.{ℕ, ◌≤◌, ◌<◌, ◌-◌, length}
use Rattle.case_rules.specs.Cases.{known}
use Rattle.case_rules.specs.Rules.{IsRefutedAt}
use Rattle.case_split.proofs.conditions.settled.Given as goal

abbrev pub invariant-conditions : goal.invariant-conditions
invariant-conditions l = record {
  within : l.k ≤ length (known l.case);
  none : (j : ℕ) → j < l.k → ¬ IsRefutedAt l.case j;
}

abbrev pub decreases-conditions : goal.decreases-conditions
decreases-conditions l = length (known l.case) - l.k
