use Rattle.std.proofs.Common.{rules, ◌+◌, refl}
use Rattle.case_system.proofs.Joining.{all_shared, counted_more}
use Rattle.case_system.proofs.lines.CaseLines.share.Goals as goal

pub invariant_of-self-in-Ok : goal.invariant_of-self-in-Ok
invariant_of-self-in-Ok c = counted_more c.self.inside.segments.items c.push_reserved.new.self.items c.in-Ok.segment c.self.inside.before c.len-count.result (c.self.inside.before + c.len-count.result) c.self.invariant (search rules) (search rules) refl (search rules)

pub returns-in-Ok-clause-same : goal.returns-in-Ok-clause-same
returns-in-Ok-clause-same c = all_shared c.args.self.now c.self.inside.segments.items c.push_reserved.new.self.items c.self.inside.own.items c.in-Ok.segment c.replace.new.dest.items c.self.view_is (search rules) (search rules) (search rules)
