use Rattle.std.proofs.Common.{rules, ◌≡◌}
use Rattle.gauge_fix.proofs.Fixed.{fixed_terms, fixed_not_heavy, fixed_difference}
use Rattle.gauge_fix.proofs.gauge.gauge_difference.Goals as goal

pub unreachable-requires-in-Err-Heavy : goal.unreachable-requires-in-Err-Heavy
unreachable-requires-in-Err-Heavy c =
    let collected : c.push-2.new.self.items ≡ fixed_terms c.number_of-number.result c.args.entry.value = search rules in
    let fault = rw c.in-Err-Heavy.field-0-is at c.in-Err-Heavy.ensures.answer in
    fixed_not_heavy _ _ _ _ collected c.requires.in_range fault.1

pub returns-in-Ok : goal.returns-in-Ok
returns-in-Ok c =
    let collected : c.push-2.new.self.items ≡ fixed_terms c.number_of-number.result c.args.entry.value = search rules in
    fixed_difference _ c.args.entry _ _ _ c.number_of-number.ensures collected c.in-Ok.ensures.answer
