use Rattle.std.proofs.Common.{rules, ◌+◌, sym, subst}
use Rattle.case_system.specs.CaseLines.{all_lines}
use Rattle.case_system.specs.Systems.{HasCondition}
use Rattle.case_state.proofs.Branching.{system_is, nonzero_made}
use Rattle.case_state.proofs.case.Case.nonzero_branch.Goals as goal

pub returns : goal.returns
returns c =
    nonzero_made c.args.self.now c.args.by.now c.in_ok-decisions.decisions.items c.self.inside.system c.in_ok-system.system (all_lines c.in_ok-lines.lines) (all_lines c.share.new.self) (c.self.inside.moves + 1)
    (system_is _ _ _ _ _ c.self.view_is c.self.invariant) (search rules) (search rules)
    (subst (λ ls. HasCondition c.self.inside.system c.args.by.now (all_lines c.in_ok-lines.lines) ls c.in_ok-system.system) (sym c.share.ensures.same) c.in_ok-system.ensures) (search rules)
