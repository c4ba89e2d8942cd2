use Rattle.std.specs.Prelude.{◌≤◌}
use Rattle.case_rules.specs.Belonging.{Belongs}
use Rattle.example_tests.proofs.cases.end_at.Given as goal

abbrev pub invariant-loop-letter : goal.invariant-loop-letter
invariant-loop-letter l = record {
  belongs : Belongs l.root l.reached;
  within : l.reached.moves ≤ l.budget;
}
