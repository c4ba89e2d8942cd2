use Rattle.std.proofs.Common.{rules, arith, ◌≢◌, ◌-◌}
use Rattle.std.specs.declared.option.Option.TheVariants.{Some}
use Rattle.sparse_poly.specs.Reads.{main_variable}
use Rattle.case_rules.specs.Cases.{poly}
use Rattle.case_split.proofs.Ordered.{first_here}
use Rattle.case_split.proofs.pairs.first_with.Goals as goal

pub returns-then-ne : goal.returns-then-ne
returns-then-ne c =
    let other : main_variable (poly c.args.case.now (c.equations.p - 1)) ≢ Some c.args.var = search rules in
    first_here c.args.case.now c.requires.in_order c.args.var c.args.i c.equations.p (c.equations.p - 1) (omega (arith, c.equations-test.true)) c.requires.main c.equations.invariant other
