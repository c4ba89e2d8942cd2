use Rattle.std.proofs.Common.{◌≡◌, ◌∙◌, ◌+◌, ◌-◌, ◌*◌, sym, ap, arith, rules, get_or, drop, inl, inr}
use Rattle.std.specs.Prelude.{ℕ}
use Rattle.poly_text.specs.Numbers.{number_from, after_digits}
use Rattle.poly_text.proofs.NumberRuns.{number_from-le, number_step, rest_step}
use Rattle.poly_text.proofs.numbers.split_digits.Goals as goal

pub digits-preserved : goal.digits-preserved
digits-preserved c =
    let rest = c.digits.rest.now in
    let n = c.digits.number in
    let m : ℕ = 10 * n + (get_or rest 0 0 - 48) in
    let step : number_from n rest ≡ number_from m (drop 1 rest) = number_step n rest (search rules) in
    let le = number_from-le m (drop 1 rest) in
    record {
      exact = λ h. (let k = c.with_digit-number.ensures.exact h in c.digits.invariant.exact k.0 ∙ step ∙ ap (λ j. number_from j (drop 1 rest)) (sym k.1) ∙ ap (number_from c.with_digit-number.result) (sym c.behind-rest.ensures));
      great = λ h. elim (c.with_digit-number.ensures.great h) [
        | inl l ↦ c.digits.invariant.great l
        | inr l ↦ (let e = c.digits.invariant.exact l.0 in let k = l.1 in omega (arith, e, step, le, k))
      ];
      behind = c.digits.invariant.behind ∙ rest_step rest (search rules) ∙ ap after_digits (sym c.behind-rest.ensures);
    }
