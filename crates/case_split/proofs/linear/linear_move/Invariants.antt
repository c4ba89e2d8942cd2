use Rattle.case_rules.specs.Cases.{count}
use Rattle.std.specs.Prelude.{◌-◌}
use Rattle.case_split.specs.Searched.{IsSearched}
use Rattle.case_split.proofs.linear.linear_move.Given as goal

abbrev pub invariant-equations : goal.invariant-equations
invariant-equations l = IsSearched l.case l.progress

abbrev pub decreases-equations : goal.decreases-equations
decreases-equations l = count l.case - l.progress.done
