use Rattle.case_rules.proofs.Holding.{at_branch, at_one, not_both}
use Rattle.case_rules.proofs.laws.branch_law.Goals as goal

pub returns-clause-branch : goal.returns-clause-branch
returns-clause-branch g c = λ root s d by zero tail e b. at_branch g.F.CharZeroField.field s root d by zero tail e b

pub returns-clause-one : goal.returns-clause-one
returns-clause-one g c = λ root s d by tail z n a b h. at_one g.F.CharZeroField.field s root d by tail z n (c.decide_law.ensures _ _) a b h

pub returns-clause-not_both : goal.returns-clause-not_both
returns-clause-not_both g c = λ root s d by tail z n a b h i. not_both g.F.CharZeroField.field s root d by tail z n a b h i
