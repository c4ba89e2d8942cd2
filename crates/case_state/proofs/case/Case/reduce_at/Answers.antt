use Rattle.std.proofs.Common.{rules, ◌+◌}
use Rattle.case_system.specs.CaseLines.{all_lines}
use Rattle.case_state.proofs.Branching.{system_is, reduced_made}
use Rattle.case_state.proofs.case.Case.reduce_at.Goals as goal

pub returns-in-Ok-clause-answer : goal.returns-in-Ok-clause-answer
returns-in-Ok-clause-answer c =
    reduced_made c.args.self.now c.args.q c.args.p c.args.var c.in-Ok.place c.self.inside.decisions.items c.self.inside.system c.reduced.new.system (all_lines c.self.inside.lines) (all_lines c.reduced.new.lines) (c.self.inside.moves + 1)
    (system_is _ _ _ _ _ c.self.view_is c.self.invariant) (search rules) (search rules) c.in-Ok.ensures.answer (search rules)
