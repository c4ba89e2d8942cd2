use Rattle.std.proofs.Common.{rules}
use Rattle.case_state.proofs.TailSteps.{tail_requires, tail_answer}
use Rattle.case_state.proofs.case.Case.tail.Goals as goal

pub tail_step-requires : goal.tail_step-requires
tail_step-requires c = tail_requires c.args.self.now c.args.by.now c.args.i c.in-Some.var c.at-poly.result.now c.in_ok-initial.initial c.in_ok-parts.parts.factor c.in_ok-parts.parts.rest c.conditions.result.now c.conditions-2.result.now c.terms-terms.ensures.poly (search rules) (search rules) c.requires (search rules) (search rules) c.in_ok-parts.ensures (search rules)

pub returns : goal.returns
returns c = tail_answer c.args.self.now c.args.by.now c.args.i c.in-Some.var c.at-poly.result.now c.in_ok-initial.initial c.in_ok-parts.parts.factor c.in_ok-parts.parts.rest c.conditions.result.now c.conditions-2.result.now c.tail_step.result c.terms-terms.ensures.poly (search rules) (search rules) c.requires (search rules) (search rules) c.in_ok-parts.ensures (search rules) c.tail_step.ensures
