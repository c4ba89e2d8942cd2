use Rattle.std.proofs.Common.{rules}
use Rattle.case_rules.proofs.EndsBelong.{good_leaf}
use Rattle.case_split.proofs.Running.{same_good}
use Rattle.case_split.proofs.ends.leaf.Goals as goal

pub of_good_parts-requires : goal.of_good_parts-requires
of_good_parts-requires c =
    same_good c.args.root.now c.args.case.now c.in_ok-decisions.decisions.items c.in_ok-lines.lines.items c.in_ok-equations.equations.items c.args.end (search rules) (search rules) (search rules)
    (good_leaf c.args.root.now c.args.case.now c.args.end c.requires.belongs c.requires.checks)
