use Rattle.std.proofs.Common.{arith, sym, ap, subst, ◌∙◌, ◌≡◌, ◌<◌, ◌≤◌, ◌*◌, ◌^◌, length, ℕ}
use Rattle.monomial.specs.Layouts.{lane}
use Rattle.monomial.proofs.Words.{word_of-monomial, FitsLayout-monomial, mod_small}
use Rattle.monomial.proofs.laid.Laid.word_in.Goals as goal

pub returns-then-has_small_lanes : goal.returns-then-has_small_lanes
returns-then-has_small_lanes c =
    let vs = c.self.inside.layout in
    let same : c.self.inside.layout ≡ c.args.layout.now = c.is_same.ensures.0 c.if-is_same.true in
    let most : 2 ^ 128 ≡ 2 ^ (16 * length vs) = ap (λ n. 2 ^ (16 * n)) (sym c.self.invariant.0.eight) in
    let small : (n : ℕ) → n < 8 → lane c.self.inside.word n ≤ 32767 = c.has_small_lanes.ensures c.if-has_small_lanes.true in
    rw (← same, ← c.self.view_is) (record {
      layout = c.self.invariant.0;
      value = sym (word_of-monomial vs c.self.inside.word c.self.invariant.0.falling ∙ mod_small c.self.inside.word (2 ^ (16 * length vs)) (subst (λ n. c.self.inside.word < n) most c.self.invariant.1));
      fits = FitsLayout-monomial vs c.self.inside.word (λ n h. small n (omega (arith, h, c.self.invariant.0.eight)));
    })
