use Rattle.std.specs.Prelude.{◌≡◌, ℕ, List, Some}
use Rattle.std.specs.Int.Bits.{bit_xor, xor_zero_l, xor_zero_r}
use Rattle.std.proofs.Common.{rules, ◌∙◌, ap, subst}
use Rattle.std.proofs.lemmas.Result.{IfOk-weaker}
use Rattle.label_tuples.specs.Extended.{every}
use Rattle.fusion_ring.specs.declared.Triple.{Triple}
use Rattle.fusion_ring.specs.Faults.{IsRingOf}
use Rattle.ring_make.specs.Made.{all_products, IsPointed}
use Rattle.ring_make.proofs.Pointed.{pointed}
use Rattle.ring_make.proofs.cube.Goals as goal

pub returns : goal.returns
returns c =
    let n = c.cube_labels-labels.result in
    let step : ℕ → ℕ → Triple = λ a b. record { a = a; b = b; c = bit_xor a b } in
    let products : c.in_ok-products.products.items ≡ all_products bit_xor n =
    c.in_ok-products.ensures (λ a b. Some (step a b)) (λ t x o h. search rules) ∙ ap (λ ts. every step ts n) (c.deref.ensures.value ∙ c.in_ok-all.ensures) in
    IfOk-weaker c.problem_of.result _ _
    (λ p h.
    let ring = subst (λ (ps : List Triple). IsRingOf n ps p.ring) (c.deref-2.ensures.value ∙ products) h.0 in
    subst (λ (m : ℕ). IsPointed m bit_xor p) c.cube_labels-labels.ensures
    (pointed n bit_xor (λ b k. xor_zero_l b) (λ a k. xor_zero_r a) p (c.channel_law.ensures n (all_products bit_xor n) p.ring ring) ring h.1))
    c.problem_of.ensures
