use Rattle.std.proofs.Common.{sym, ap, subst, ◌∙◌, ◌≡◌, ◌<◌, ◌*◌, ◌^◌, length}
use Rattle.monomial.proofs.Words.{monomial_order}
use Rattle.monomial.proofs.laid.Laid.order.Goals as goal

pub returns-then-is_same : goal.returns-then-is_same
returns-then-is_same c =
    let vs = c.self.inside.layout in
    let same : c.self.inside.layout ≡ c.other.inside.layout = c.is_same.ensures.0 c.if-is_same.true in
    let most : 2 ^ 128 ≡ 2 ^ (16 * length vs) = ap (λ n. 2 ^ (16 * n)) (sym c.self.invariant.0.eight) in
    c.cmp.ensures ∙ sym (rw (← c.self.view_is, ← c.other.view_is, ← same) (monomial_order vs c.self.inside.word c.other.inside.word c.self.invariant.0.falling (subst (λ n. c.self.inside.word < n) most c.self.invariant.1) (subst (λ n. c.other.inside.word < n) most c.other.invariant.1)))
