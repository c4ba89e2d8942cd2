use Rattle.std.proofs.Common.{rules, ◌≡◌, sym}
use Rattle.poly_text.specs.Order.{product}
use Rattle.poly_text.proofs.Orders.{product_ordered}
use Rattle.poly_text.proofs.order.is_term_below.Goals as goal

pub returns-in-None : goal.returns-in-None
returns-in-None c =
    let e : product c.args.powers.now ≡ c.args.powers.now = product_ordered 0 c.args.powers.now (sym (search rules)) in
    rw (e, c.in-Some.is) c.is_less_ordered.ensures
