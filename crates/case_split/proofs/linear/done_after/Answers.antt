use Rattle.std.proofs.Common.{rules}
use Rattle.case_split.proofs.Due.{none_new, none_beyond}
use Rattle.case_split.proofs.linear.done_after.Goals as goal

pub returns-then-i-done : goal.returns-then-i-done
returns-then-i-done c = none_beyond _ c.args.done c.in-Some.i c.args.at (search rules) (search rules) c.requires.only

pub returns-in-None : goal.returns-in-None
returns-in-None c = none_new c.args.case.now c.args.done c.in-Some.i c.args.at c.at.result.now (search rules) (search rules) (search rules) c.requires.only
