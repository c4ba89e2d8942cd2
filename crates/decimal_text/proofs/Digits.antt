-- Going over digits.
use Rattle.std.specs.Prelude.{◌≡◌, ℕ, ◌+◌, ◌-◌, ◌*◌, ◌<◌, ◌≤◌, Bool, true, false, ◌&&◌, List, [], ◌∷◌, length, drop, get_or, refl}
use Rattle.std.proofs.Common.{sym, ◌∙◌, ap, arith, add-one, drop-cons}
use Rattle.decimal_text.specs.Numerals.{is_digit, are_digits, number_after}

-- one more place is passed
pub drop_step : (s : List ℕ) (i : ℕ) → i < length s → drop i s ≡ get_or s i 0 ∷ drop (i + 1) s
drop_step s i h = rw (add-one, drop-cons s i 0)

pub both : (a b : Bool) → a && b ≡ true → (a ≡ true) × (b ≡ true)
both true b h = (refl, h)
both false b h = absurd (cc)

pub digits_step : (s : List ℕ) (i : ℕ) → i < length s → are_digits (drop i s) ≡ true → (is_digit (get_or s i 0) ≡ true) × (are_digits (drop (i + 1) s) ≡ true)
digits_step s i h e = both (is_digit (get_or s i 0)) (are_digits (drop (i + 1) s)) (sym (ap are_digits (drop_step s i h)) ∙ e)

pub are_step : (s : List ℕ) (i : ℕ) → i < length s → is_digit (get_or s i 0) ≡ true → are_digits (drop i s) ≡ are_digits (drop (i + 1) s)
are_step s i h e = ap are_digits (drop_step s i h) ∙ ap (λ b. b && are_digits (drop (i + 1) s)) e

pub are_not : (s : List ℕ) (i : ℕ) → i < length s → is_digit (get_or s i 0) ≡ false → are_digits (drop i s) ≡ false
are_not s i h e = ap are_digits (drop_step s i h) ∙ ap (λ b. b && are_digits (drop (i + 1) s)) e

pub number_step : (s : List ℕ) (i n : ℕ) → i < length s → number_after n (drop i s) ≡ number_after (10 * n + (get_or s i 0 - 48)) (drop (i + 1) s)
number_step s i n h = ap (number_after n) (drop_step s i h)

-- further digits make no number less
pub number_after-le : (n : ℕ) (cs : List ℕ) → n ≤ number_after n cs
number_after-le n [] = omega arith
number_after-le n (c ∷ cs) = let h = number_after-le (10 * n + (c - 48)) cs in omega (arith, h)

pub great_step : (s : List ℕ) (i n m : ℕ) → i < length s → m ≤ 10 * n + (get_or s i 0 - 48) → m ≤ number_after n (drop i s)
great_step s i n m h k = let e = number_step s i n h in let le = number_after-le (10 * n + (get_or s i 0 - 48)) (drop (i + 1) s) in omega (arith, e, le)
