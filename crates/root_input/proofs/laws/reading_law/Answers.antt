use Rattle.root_input.proofs.Told.{told_all, told_long, told_more}
use Rattle.root_input.proofs.laws.reading_law.Goals as goal

pub returns-clause-read : goal.returns-clause-read
returns-clause-read c limit source bytes all tells reads = told_all limit source bytes all tells reads

pub returns-clause-long : goal.returns-clause-long
returns-clause-long c limit source bytes stop tells is apart = told_long limit source bytes stop tells is apart

pub returns-clause-over : goal.returns-clause-over
returns-clause-over c limit source bytes tells is = told_more limit source bytes tells is
