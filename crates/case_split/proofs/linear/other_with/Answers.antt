use Rattle.std.proofs.Common.{rules, refl}
use Rattle.case_split.proofs.Due.{none_more}
use Rattle.case_split.proofs.Ordered.{none_before, none_passed}
use Rattle.case_split.proofs.linear.other_with.Goals as goal

pub other_from-requires-2-clause-none : goal.other_from-requires-2-clause-none
other_from-requires-2-clause-none c = none_more _ _ (λ j l x. none_before c.args.case.now c.requires.in_order c.args.p j c.args.var c.requires.place c.requires.linear c.requires.done l x) (λ x. x.other refl)

pub other_from-requires-clause-none : goal.other_from-requires-clause-none
other_from-requires-clause-none c = none_passed c.args.case.now c.requires.in_order c.args.p c.args.var c.args.passed c.requires.place c.requires.linear (search rules) (search rules) c.requires.passed
