use Rattle.std.proofs.Common.{rules, ◌+◌, sym, subst}
use Rattle.case_rules.specs.Cases.{known}
use Rattle.case_system.specs.Clean.{IsBare}
use Rattle.case_system.proofs.Counting.{stripped_bare}
use Rattle.case_rules.specs.Clearings.{made}
use Rattle.case_system.specs.CaseLines.{all_lines}
use Rattle.case_system.specs.Systems.{IsAddedCleared}
use Rattle.case_state.proofs.Branching.{system_is, same_conditions, tail_made}
use Rattle.case_state.proofs.case.Case.after_tail.Goals as goal

pub returns : goal.returns
returns c =
    tail_made c.args.self.now c.args.by.now c.args.i c.args.step c.in_ok-zero.zero (all_lines c.in_ok-lines.lines) c.in_ok-copy.field-0 c.len.result c.step_line.result (all_lines c.push.new.self) (all_lines c.share.new.self) c.self.inside.system c.in_ok-system.system c.remove.new.self c.add.new.self c.add_cleared.new.self c.in_ok-decided.field-0.items (c.self.inside.moves + 1)
    (system_is _ _ _ _ _ c.self.view_is c.self.invariant) c.requires.tail c.in_ok-zero.ensures (search rules) c.in_ok-copy.ensures (search rules) (search rules) (search rules) c.in_ok-system.ensures (search rules) (search rules)
    (subst (λ ls. IsAddedCleared c.add.new.self (all_lines c.push.new.self) (made c.in_ok-copy.field-0 c.len.result) ls c.add_cleared.new.self) (sym c.share.ensures.same) c.in_ok-add_cleared.ensures) (search rules) (search rules)

pub add_cleared-requires : goal.add_cleared-requires
add_cleared-requires c =
    subst (λ us. IsBare us c.in_ok-copy.field-0) (sym (same_conditions c.args.self.now _ _ c.self.inside.system c.in_ok-system.system c.remove.new.self c.add.new.self (system_is _ _ _ _ _ c.self.view_is c.self.invariant) c.in_ok-system.ensures c.remove.ensures c.in_ok-add.ensures))
    (subst (IsBare (known c.args.self.now)) (sym c.in_ok-copy.ensures) (stripped_bare (known c.args.self.now) _ _ _ c.requires.tail.tail.is_step.stripped))
