use Rattle.std.proofs.Common.{◌≤◌, ◌+◌, ◌*◌, ◌∙◌, sym, ap, arith, subst, length}
use Rattle.std.proofs.lemmas.Result.{IfOk-weaker}
use Rattle.poly_text.specs.Order.{product, AreAtMost}
use Rattle.poly_text.proofs.Orders.{at_most_more}
use Rattle.poly_text.proofs.Products.{product_halves, times_at_most_sum}
use Rattle.poly_text.proofs.factors.+product.Goals as goal

pub returns-in_ok-second-in_default-clause-product : goal.returns-in_ok-second-in_default-clause-product
returns-in_ok-second-in_default-clause-product t c =
    let first = c.deref.ensures.value ∙ c.in_ok-first-in_default.ensures.product ∙ ap product c.split_at.ensures.front in
    let second = c.deref-in_default.ensures.value ∙ c.in_ok-second-in_default.ensures.product ∙ ap product c.split_at.ensures.back in
    IfOk-weaker c.times.result _ _ (λ v same. same ∙ product_halves _ c.args.powers.now _ _ first second) c.times.ensures

pub returns-in_ok-second-in_default-clause-bounded : goal.returns-in_ok-second-in_default-clause-bounded
returns-in_ok-second-in_default-clause-bounded t c =
    let m = 65535 * length c.split_at.result.0.now in
    let n = 65535 * length c.split_at.result.1.now in
    let first : AreAtMost m c.deref.result.now = subst (AreAtMost m) (sym c.deref.ensures.value) c.in_ok-first-in_default.ensures.bounded in
    let second : AreAtMost n c.deref-in_default.result.now = subst (AreAtMost n) (sym c.deref-in_default.ensures.value) c.in_ok-second-in_default.ensures.bounded in
    let long : m + n ≤ 65535 * length c.args.powers.now = omega arith in
    IfOk-weaker c.times.result _ _ (λ v same. subst (AreAtMost (65535 * length c.args.powers.now)) (sym same) (at_most_more _ _ _ long (times_at_most_sum m n _ _ first second))) c.times.ensures
