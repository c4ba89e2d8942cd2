use Rattle.std.proofs.Common.{arith, sym, ap, subst, ◌∙◌, ◌≡◌, ◌≢◌, ◌<◌, ◌-◌, ◌+◌, ℕ}
use Rattle.monomial.specs.Monomials.{exponent}
use Rattle.monomial.specs.Layouts.{lane, lanes, monomial_of, AreFalling}
use Rattle.monomial.proofs.Lanes.{exponent_own, exponent_other, falling_less, lanes_none}
use Rattle.monomial.proofs.laid.Laid.exponent.Goals as goal

-- the place of the next lane, and how many are left below it
place_of : (i : ℕ) → i < 8 → (8 - i) - 1 ≡ 7 - i
place_of i h = omega arith

left_of : (i : ℕ) → i < 8 → (8 - i) - 1 ≡ 8 - (i + 1)
left_of i h = omega arith

pub returns-then-from-var : goal.returns-then-from-var
returns-then-from-var c =
    let i = c.loop-i.i in
    let some : 0 < 8 - c.loop-i.i = omega (arith, c.loop-i-test.true) in
    let place = place_of c.loop-i.i c.loop-i-test.true in
    let own : lane c.word-variables.result ((8 - c.loop-i.i) - 1) ≡ c.args.var = ap (lane c.word-variables.result) place ∙ sym c.lane.ensures ∙ sym c.from.ensures ∙ c.if-from-var.true in
    c.from-then-from-var.ensures ∙ c.lane-then-from-var.ensures ∙ sym (ap (lane c.self.inside.word) place)
    ∙ sym (exponent_own (8 - c.loop-i.i) c.word-variables.result c.self.inside.word some c.loop-i.invariant.falling)
    ∙ ap (exponent (monomial_of (lanes (8 - c.loop-i.i) c.word-variables.result) c.self.inside.word)) own
    ∙ c.loop-i.invariant.same

pub loop-i-preserved : goal.loop-i-preserved
loop-i-preserved c =
    let some : 0 < 8 - c.loop-i.i = omega (arith, c.loop-i-test.true) in
    let place = place_of c.loop-i.i c.loop-i-test.true in
    let less = left_of c.loop-i.i c.loop-i-test.true in
    let apart : lane c.word-variables.result ((8 - c.loop-i.i) - 1) ≢ c.args.var = λ e. c.if-from-var.false (c.from.ensures ∙ c.lane.ensures ∙ sym (ap (lane c.word-variables.result) place) ∙ e) in
    record {
      falling = subst (λ n. AreFalling (lanes n c.word-variables.result)) less (falling_less (8 - c.loop-i.i) c.word-variables.result some c.loop-i.invariant.falling);
      same = subst (λ n. exponent (monomial_of (lanes n c.word-variables.result) c.self.inside.word) c.args.var ≡ exponent c.args.self.now c.args.var) less (sym (exponent_other (8 - c.loop-i.i) c.word-variables.result c.self.inside.word c.args.var some apart) ∙ c.loop-i.invariant.same);
    }

pub returns : goal.returns
returns c =
    let ended : 8 - c.loop-i.i ≡ 0 = omega (arith, c.loop-i-test.false) in
    sym (ap (λ ps. exponent ps c.args.var) (ap (λ n. monomial_of (lanes n c.word-variables.result) c.self.inside.word) ended ∙ lanes_none c.word-variables.result c.self.inside.word)) ∙ c.loop-i.invariant.same
