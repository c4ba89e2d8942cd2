use Rattle.std.proofs.Common.{arith, ◌<◌, ◌-◌, ◌∙◌, ap, sym, length}
use Rattle.sparse_poly.specs.Order.{poly_cmp}
use Rattle.case_rules.specs.declared.equation.Equation.{Equation}
use Rattle.case_rules.specs.Cases.{no_equation}
use Rattle.case_system.proofs.Placing.{any_default, goes_last}
use Rattle.case_system.proofs.kept.goes_last.Goals as goal

pub returns-in-Less : goal.returns-in-Less
returns-in-Less c = λ _.
    let more : 0 < length c.args.equations.now = omega (arith, c.if-n-gt0.true) in
    let last : length c.args.equations.now - 1 < length c.args.equations.now = omega (arith, more) in
    let same = any_default c.args.equations.now (length c.args.equations.now - 1) no_equation c.index-equations-n.result last in
    goes_last c.args.poly.now c.args.equations.now c.requires more (ap (λ (e : Equation). poly_cmp e.poly c.args.poly.now) same ∙ sym c.order.ensures ∙ c.in-Less.is)
