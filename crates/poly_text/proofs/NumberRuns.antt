-- Numbers and their texts.
use Rattle.std.specs.Prelude.{◌≡◌, ℕ, ◌+◌, ◌-◌, ◌*◌, ◌≤◌, Bool, true, false, if◌then◌else◌, List, [], ◌∷◌, drop, get_or}
use Rattle.std.proofs.Common.{ap, arith}
use Rattle.poly_text.specs.Form.{is_digit}
use Rattle.poly_text.specs.Numbers.{number_from, after_digits}
use Rattle.poly_text.specs.Fronts.{begins_with_digit}

either : (b : Bool) (n m k : ℕ) → n ≤ m → m ≤ k → n ≤ (if b then k else n)
either true n m k g h = omega arith
either false n m k g h = omega arith

-- further digits make no number less
pub number_from-le : (n : ℕ) (cs : List ℕ) → n ≤ number_from n cs
number_from-le n [] = omega arith
number_from-le n (c ∷ cs) = either (is_digit c) n (10 * n + (c - 48)) (number_from (10 * n + (c - 48)) cs) (omega arith) (number_from-le (10 * n + (c - 48)) cs)

-- one digit more
pub number_step : (n : ℕ) (cs : List ℕ) → begins_with_digit cs ≡ true → number_from n cs ≡ number_from (10 * n + (get_or cs 0 0 - 48)) (drop 1 cs)
number_step n [] h = absurd (cc)
number_step n (c ∷ cs) h = ap (λ b. if b then number_from (10 * n + (c - 48)) cs else n) h

pub rest_step : (cs : List ℕ) → begins_with_digit cs ≡ true → after_digits cs ≡ after_digits (drop 1 cs)
rest_step [] h = absurd (cc)
rest_step (c ∷ cs) h = ap (λ b. if b then after_digits cs else c ∷ cs) h
