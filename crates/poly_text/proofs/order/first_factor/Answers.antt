use Rattle.std.proofs.Common.{◌∙◌, sym, drop, arith, length-drop, ◌-◌}
use Rattle.poly_text.proofs.Orders.{no_factor}
use Rattle.poly_text.proofs.order.first_factor.Goals as goal

pub returns : goal.returns
returns c =
    let k = c.factors.at - 1 in
    let ps = c.args.powers.now in
    sym (c.factors.invariant.same ∙ no_factor k (drop k ps) (omega (arith, length-drop k ps)))
