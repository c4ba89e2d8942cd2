use Rattle.std.proofs.Common.{rules}
use Rattle.case_system.proofs.Placing.{no_new_place}
use Rattle.case_system.proofs.kept.add_equation.Goals as goal

pub returns-in-Ok-clause-place : goal.returns-in-Ok-clause-place
returns-in-Ok-clause-place c = no_new_place c.args.equation.poly c.args.equations.now.items c.in-Ok.i (search rules) (search rules)
