use Rattle.std.specs.Prelude.{◌≤◌}
use Rattle.case_rules.specs.Cases.{count}
use Rattle.case_split.proofs.Ordered.{None_paired_from}
use Rattle.case_split.proofs.pairs.pair.Given as goal

abbrev pub invariant-equations : goal.invariant-equations
invariant-equations l = record {
  within : l.i ≤ count l.case;
  none : None_paired_from l.case l.i;
}

abbrev pub decreases-equations : goal.decreases-equations
decreases-equations l = l.i
