use Rattle.std.proofs.Common.{rules}
use Rattle.case_system.specs.CaseLines.{joined}
use Rattle.case_system.proofs.Joining.{grown}
use Rattle.case_system.proofs.lines.CaseLines.push.Goals as goal

pub returns-clause-grows : goal.returns-clause-grows
returns-clause-grows c = grown c.args.self.now (joined c.self.inside.segments.items) c.self.inside.own.items c.push.new.self.items c.args.line c.self.view_is (search rules)
