use Rattle.std.specs.Prelude.{◌≡◌, ◌+◌, ◌%◌, ◌<◌, ℕ, List, Some}
use Rattle.std.proofs.Common.{rules, ◌∙◌, ap, arith, subst}
use Rattle.std.proofs.Math.Nat.{mod-eq_of_lt}
use Rattle.std.proofs.lemmas.Result.{IfOk-weaker}
use Rattle.label_tuples.specs.Extended.{every}
use Rattle.fusion_ring.specs.declared.Triple.{Triple}
use Rattle.fusion_ring.specs.Faults.{IsRingOf}
use Rattle.ring_make.specs.Made.{all_products}
use Rattle.ring_make.proofs.Pointed.{pointed}
use Rattle.ring_make.proofs.cyclic.Goals as goal

pub returns : goal.returns
returns c =
    let n = c.args.labels in
    let some : 0 < n = omega (arith, c.requires.some) in
    let few = c.requires.few in
    let step : ℕ → ℕ → Triple = λ a b. record { a = a; b = b; c = (a + b) % n } in
    let products : c.in_ok-products.products.items ≡ all_products (λ a b. (a + b) % n) n =
    c.in_ok-products.ensures (λ a b. Some (step a b)) (λ t x o h. search rules) ∙ ap (λ ts. every step ts n) (c.deref.ensures.value ∙ c.in_ok-all.ensures) in
    IfOk-weaker c.problem_of.result _ _
    (λ p h. pointed n (λ a b. (a + b) % n) (λ b k. ap (λ x. x % n) (let e : 0 + b ≡ b = omega arith in e) ∙ mod-eq_of_lt k) (λ a k. ap (λ x. x % n) (let e : a + 0 ≡ a = omega arith in e) ∙ mod-eq_of_lt k) p
    (c.channel_law.ensures n (all_products (λ a b. (a + b) % n) n) p.ring (subst (λ (ps : List Triple). IsRingOf n ps p.ring) (c.deref-2.ensures.value ∙ products) h.0))
    (subst (λ (ps : List Triple). IsRingOf n ps p.ring) (c.deref-2.ensures.value ∙ products) h.0) h.1)
    c.problem_of.ensures
