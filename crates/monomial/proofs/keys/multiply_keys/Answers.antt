use Rattle.std.proofs.Common.{rules, arith, ◌∙◌, ap, subst, ℕ, ◌≡◌, ◌<◌, ◌≤◌, length, map, ◌++◌, slice_index_or, [], ◌∷◌}
use Rattle.std.proofs.lemmas.List.{length-map, map-append}
use Rattle.monomial.specs.Keys.{power_of}
use Rattle.monomial.proofs.Steps.{Met-left}
use Rattle.monomial.proofs.keys.multiply_keys.Goals as goal

pub left-preserved : goal.left-preserved
left-preserved g c =
    let ended : c.both.j ≡ length c.args.second.now = c.left.invariant.one_ended (λ h. omega (arith, h, c.left-test.true)) in
    let inside : c.left.i < length (map power_of c.args.first.now) = omega (arith, c.left-test.true, length-map c.args.first.now power_of) in
    let all : c.both.j ≡ length (map power_of c.args.second.now) = omega (arith, ended, length-map c.args.second.now power_of) in
    let value : power_of c.key_at.result ≡ slice_index_or (map power_of c.args.first.now) c.left.i (0, 0) = c.key_at.ensures in
    let own : (power_of c.key_at.result).1 ≤ 65535 = omega arith in
    let small : (slice_index_or (map power_of c.args.first.now) c.left.i (0, 0)).1 ≤ 65535 = subst (λ (p : ℕ × ℕ). p.1 ≤ 65535) value own in
    let items : map power_of c.push-in-left.new.self.items ≡ map power_of c.left.product.items ++ slice_index_or (map power_of c.args.first.now) c.left.i (0, 0) ∷ [] =
    ap (map power_of) c.push-in-left.ensures.items ∙ map-append power_of c.left.product.items (c.key_at.result ∷ []) ∙ ap (λ p. map power_of c.left.product.items ++ p ∷ []) value in
    record {
      few = search rules;
      one_ended = λ _. ended;
      met = rw items (Met-left _ _ _ _ _ inside all small c.left.invariant.met);
    }
