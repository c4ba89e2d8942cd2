use Rattle.std.specs.Prelude.{◌≤◌, ◌-◌}
use Rattle.case_rules.specs.Belonging.{Belongs}
use Rattle.case_rules.specs.Ends.{End, IsEnd}
use Rattle.case_rules.specs.Rules.{IsAlive}
use Rattle.case_split.specs.Searched.{IsSearched}
use Rattle.case_split.proofs.run.run_case.Given as goal

-- what ends the case as it is now ends the case that was given; it is not dead, and the search by Linear has come this far
abbrev pub invariant-moves : goal.invariant-moves
invariant-moves l = record {
  within : l.now.moves ≤ l.budget;
  belongs : Belongs l.root l.now;
  ends : (o : End) → IsEnd l.root l.budget l.now o → IsEnd l.root l.budget l.case o;
  alive : IsAlive l.now;
  progress : IsSearched l.now l.progress;
}

abbrev pub decreases-moves : goal.decreases-moves
decreases-moves l = l.budget - l.now.moves
