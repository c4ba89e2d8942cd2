use Rattle.std.proofs.Common.{rules}
use Rattle.case_rules.specs.Cases.{equation}
use Rattle.case_rules.specs.Ends as ends
use Rattle.case_split.proofs.Running.{same_cone}
use Rattle.case_split.proofs.ends.dead.Goals as goal

pub returns : goal.returns
returns c = λ budget.
    ends.IsEnd.dead c.args.case.now c.args.i c.in_ok-refutation.refutation c.requires.least
    (same_cone c.args.root.now c.args.case.now.decisions c.as_slice.result.now c.args.case.now.lines c.deref.result.now (equation c.args.case.now c.args.i).item c.item.result c.in_ok-refutation.refutation (search rules) (search rules) (search rules) c.in_ok-refutation.ensures.cone)
