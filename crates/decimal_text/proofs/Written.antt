-- Digits and what std writes of their number.
use Rattle.std.specs.Prelude.{◌≡◌, ℕ, zero, suc, ◌+◌, ◌-◌, ◌*◌, ◌/◌, ◌%◌, ◌<◌, ◌≤◌, ◌^◌, Bool, true, false, ◌&&◌, not, ◌==◌, ℤ, pos, negsuc, unsigned_abs, List, [], ◌∷◌, ◌++◌, length, get_or, decimal, refl}
use Rattle.std.specs.Fmt.{signed_decimal}
use Rattle.std.proofs.Common.{sym, ◌∙◌, ap, arith, rules, append-nil, append_assoc, length-append}
use Rattle.std.proofs.Math.ListN.{get_or-append}
use Rattle.std.proofs.lemmas.Bool.Decides.{nat_tests}
use Rattle.std.proofs.lemmas.Fmt.{decimal_is_IsNumeral_wide, decimal_by_steps_wide, decimal_step_wide, decimal_digit}
use Rattle.std.proofs.lemmas.Str.Parse.{IsNumeralModel, numerals_by_fold}
use Rattle.decimal_text.specs.Numerals.{is_digit, are_digits, is_numeral, number_after, number, IsNumeralFault, IsSignedText}
use Rattle.decimal_text.specs.declared.NumeralFault.{NumeralFault}
use Rattle.decimal_text.specs.declared.NumeralFault.TheVariants.{Form, Range}
use Rattle.decimal_text.proofs.Digits.{both, number_after-le}

own : IsNumeralModel (λ ds. are_digits ds ≡ true) (number_after 0)
own = numerals_by_fold _ (search (rules, nat_tests)) number_after (search (rules, nat_tests))

digit : (c : ℕ) → is_digit c ≡ true → (48 ≤ c) × (c ≤ 57)
digit c h = grind (arith, nat_tests)

-- further digits behind a number that is not 0
further : (n : ℕ) (cs : List ℕ) → 0 < n → are_digits cs ≡ true → number_after n cs < 10 ^ 64 → decimal (number_after n cs) ≡ decimal n ++ cs
further n [] some h small = sym (append-nil (decimal n))
further n (c ∷ cs) some h small =
    let m : ℕ = 10 * n + (c - 48) in
    let b = both (is_digit c) (are_digits cs) h in
    let d = digit c b.0 in
    let front : m / 10 ≡ n = omega (arith, d) in
    let end : 48 + m % 10 ≡ c = omega (arith, d) in
    further m cs (omega (arith, d)) b.1 small
    ∙ ap (λ x. x ++ cs) (decimal_step_wide m (omega (arith, d)) (omega (arith, number_after-le m cs)) ∙ (λ i. decimal (front i) ++ (end i ∷ [])))
    ∙ append_assoc (decimal n) (c ∷ []) cs

from_none : (c : ℕ) → 10 * 0 + (c - 48) ≡ c - 48
from_none c = omega arith

-- a numeral is what is written of its number
pub written : (ds : List ℕ) → is_numeral ds ≡ true → number ds < 10 ^ 64 → ds ≡ decimal (number ds)
written [] h small = absurd (cc)
written (c ∷ []) h small =
    let d = digit c h in
    let one : 48 + (c - 48) ≡ c = omega (arith, d) in
    sym (ap decimal (from_none c) ∙ decimal_digit (c - 48) (omega (arith, d)) ∙ ap (λ k. k ∷ []) one)
written (c ∷ e ∷ cs) h small =
    let b = both (not (c == 48)) (is_digit c && are_digits (e ∷ cs)) h in
    let k = both (is_digit c) (are_digits (e ∷ cs)) b.1 in
    let d = digit c k.0 in
    let some : 48 < c = above c d.0 b.0 in
    let one : 48 + (c - 48) ≡ c = omega (arith, d) in
    sym (further (10 * 0 + (c - 48)) (e ∷ cs) (omega (arith, some)) k.1 small ∙ ap (λ x. x ++ (e ∷ cs)) (ap decimal (from_none c) ∙ decimal_digit (c - 48) (omega (arith, d)) ∙ ap (λ x. x ∷ []) one))
  where
    above : (c : ℕ) → 48 ≤ c → not (c == 48) ≡ true → 48 < c
    above c h e = grind (arith, nat_tests)

numeral_of : (ds : List ℕ) → are_digits ds ≡ true → 0 < length ds → (get_or ds 0 0 ≡ 48 → length ds ≡ 1) → is_numeral ds ≡ true
numeral_of [] a s p = absurd (omega arith)
numeral_of (c ∷ []) a s p = (both (is_digit c) true a).0
numeral_of (c ∷ d ∷ ds) a s p = ap (λ b. not (c == 48) && b) a ∙ other (c == 48) refl
  where
    other : (b : Bool) → (c == 48) ≡ b → not b && true ≡ true
    other false e = refl
    other true e = let k : c ≡ 48 = grind (arith, nat_tests) in absurd (let q = p k in omega arith)

first_wide : (n : ℕ) → 0 < n → n < 10 ^ 64 → 48 < get_or (decimal n) 0 0
first_wide n some small = (decimal_by_steps_wide (λ m ds. (0 < length ds) × (0 < m → 48 < get_or ds 0 0)) (λ m l. (omega arith, λ a. omega arith))
    (λ m ds l h. (omega (arith, length-append ds ((48 + m % 10) ∷ [])), λ a. omega (arith, get_or-append ds ((48 + m % 10) ∷ []) 0 0 h.0, h.1 (omega arith)))) n small).1 some

-- what std writes of a number is a numeral, of that number
pub spelled : (n : ℕ) → n < 10 ^ 64 → (is_numeral (decimal n) ≡ true) × (number (decimal n) ≡ n)
spelled n h =
    let k = decimal_is_IsNumeral_wide n h in
    (numeral_of (decimal n) (own.from (decimal n) k.0.1) k.0.0 (first n h), own.same (decimal n) k.0.1 ∙ k.1)
  where
    first : (n : ℕ) → n < 10 ^ 64 → get_or (decimal n) 0 0 ≡ 48 → length (decimal n) ≡ 1
    first zero h e = ap length (decimal_digit 0 (omega arith))
    first (suc n) h e = let f = first_wide (suc n) (omega arith) h in absurd (omega (arith, f, e))

-- ---- signed numbers

-- the text of a number in range is no fault
in_range_reads : (max n : ℕ) (ds : List ℕ) (fault : NumeralFault) → max < 2 ^ 127 → n ≤ max → ds ≡ decimal n → IsNumeralFault max ds fault → ⊥
in_range_reads max n ds Form small h e is = let k = spelled n (omega arith) in let f = sym (ap is_numeral e ∙ k.0) ∙ is in absurd (cc)
in_range_reads max n ds Range small h e is = let k = spelled n (omega arith) in let f = ap number e ∙ k.1 in omega (arith, f, is.great)

-- no text of a number begins with a minus sign
unsigned : (n : ℕ) (rest : List ℕ) → n < 10 ^ 64 → 45 ∷ rest ≡ decimal n → ⊥
unsigned n rest small e = no rest (ap is_numeral e ∙ (spelled n small).0)
  where
    no : (rest : List ℕ) → is_numeral (45 ∷ rest) ≡ true → ⊥
    no [] h = cc
    no (d ∷ ds) h = cc

same_rest : (a b : List ℕ) → 45 ∷ a ≡ 45 ∷ b → a ≡ b
same_rest a b e = cc

pub no_minus_zero : (max : ℕ) (digits : List ℕ) (v : ℤ) → max < 2 ^ 127 → digits ≡ decimal 0 → IsSignedText max (45 ∷ digits) v → ⊥
no_minus_zero max digits (pos n) small none is = unsigned n digits (let h = is.in_range in omega arith) is.spelled
no_minus_zero max digits (negsuc n) small none is =
    let h : suc n ≤ max = is.in_range in
    let a = spelled 0 (omega arith) in
    let b = spelled (suc n) (omega arith) in
    let e : number (decimal 0) ≡ number (decimal (suc n)) = ap number (sym none ∙ same_rest digits (decimal (suc n)) is.spelled) in
    omega (arith, a.1, b.1, e)

pub no_minus : (max : ℕ) (digits : List ℕ) (fault : NumeralFault) (v : ℤ) → max < 2 ^ 127 → IsNumeralFault max digits fault → IsSignedText max (45 ∷ digits) v → ⊥
no_minus max digits fault (pos n) small wrong is = unsigned n digits (let h = is.in_range in omega arith) is.spelled
no_minus max digits fault (negsuc n) small wrong is = in_range_reads max (suc n) digits fault small is.in_range (same_rest digits (decimal (suc n)) is.spelled) wrong

pub no_plain : (max : ℕ) (text : List ℕ) (fault : NumeralFault) (v : ℤ) → max < 2 ^ 127 → ((rest : List ℕ) → text ≡ 45 ∷ rest → ⊥) → IsNumeralFault max text fault → IsSignedText max text v → ⊥
no_plain max text fault (pos n) small plain wrong is = in_range_reads max n text fault small is.in_range is.spelled wrong
no_plain max text fault (negsuc n) small plain wrong is = plain (decimal (suc n)) is.spelled

-- ---- one number

same_decimal : (m n : ℕ) → m < 10 ^ 64 → n < 10 ^ 64 → decimal m ≡ decimal n → m ≡ n
same_decimal m n h k e = sym (spelled m h).1 ∙ ap number e ∙ (spelled n k).1

-- a text is that of one signed number
pub same_signed : (v w : ℤ) → unsigned_abs v < 10 ^ 64 → unsigned_abs w < 10 ^ 64 → signed_decimal v ≡ signed_decimal w → v ≡ w
same_signed (pos m) (pos n) h k e = ap pos (same_decimal m n h k e)
same_signed (pos m) (negsuc n) h k e = absurd (unsigned m (decimal (suc n)) h (sym e))
same_signed (negsuc m) (pos n) h k e = absurd (unsigned n (decimal (suc m)) k e)
same_signed (negsuc m) (negsuc n) h k e =
    let g = same_decimal (suc m) (suc n) h k (same_rest (decimal (suc m)) (decimal (suc n)) e) in
    let i : m ≡ n = omega (arith, g) in
    ap negsuc i
