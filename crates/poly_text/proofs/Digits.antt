-- The digits of a number, and what follows them.
use Rattle.std.specs.Prelude.{◌≡◌, ◌≢◌, ℕ, ◌+◌, ◌-◌, ◌*◌, ◌/◌, ◌%◌, ◌^◌, ◌<◌, ◌≤◌, Bool, true, false, nat_lt, if◌then◌else◌, List, [], ◌∷◌, ◌++◌, decimal, refl}
use Rattle.std.proofs.Common.{sym, ◌∙◌, ap, arith, append_assoc}
use Rattle.std.proofs.lemmas.Bool.Decides.{nat_tests}
use Rattle.std.proofs.lemmas.Fmt.{decimal_by_steps_wide}
use Rattle.poly_text.specs.Form.{is_digit}
use Rattle.poly_text.specs.Numbers.{number_from, after_digits}

-- a text that does not begin with such a byte
abbrev pub Lacks : (ℕ → Bool) → List ℕ → Type 0
Lacks f [] = Unit {0}
Lacks f (c ∷ cs) = f c ≡ false

-- a number whose digits are all written
abbrev pub Small : ℕ → Type 0
Small n = n < 10 ^ 64

pub below_test : (n u : ℕ) → n < u → nat_lt n u ≡ true
below_test n u h = grind (arith, nat_tests)

pub below_of : (n u : ℕ) → nat_lt n u ≡ true → n < u
below_of n u h = grind (arith, nat_tests)

pub is_digit-of : (d : ℕ) → d < 10 → is_digit (48 + d) ≡ true
is_digit-of d h = grind (arith, nat_tests)

-- digits are read one after another
abbrev Reads : ℕ → List ℕ → Type 0
Reads n ds = (rest : List ℕ) → (number_from 0 (ds ++ rest) ≡ number_from n rest) × (after_digits (ds ++ rest) ≡ after_digits rest)

number_from-digit : (m d n : ℕ) (rest : List ℕ) → d < 10 → 10 * m + d ≡ n → number_from m ((48 + d) ∷ rest) ≡ number_from n rest
number_from-digit m d n rest h e =
    ap (λ b. if b then number_from (10 * m + (48 + d - 48)) rest else m) (is_digit-of d h) ∙ ap (λ k. number_from k rest) (let q : 10 * m + (48 + d - 48) ≡ n = omega arith in q)

after_digits-digit : (d : ℕ) (rest : List ℕ) → d < 10 → after_digits ((48 + d) ∷ rest) ≡ after_digits rest
after_digits-digit d rest h = ap (λ b. if b then after_digits rest else (48 + d) ∷ rest) (is_digit-of d h)

reads : (n : ℕ) → Small n → Reads n (decimal n)
reads = decimal_by_steps_wide Reads one more
  where
    one : (n : ℕ) → n < 10 → Reads n ((48 + n) ∷ [])
    one n h rest = (number_from-digit 0 n n rest h (omega arith), after_digits-digit n rest h)

    more : (n : ℕ) (ds : List ℕ) → 10 ≤ n → Reads (n / 10) ds → Reads n (ds ++ ((48 + n % 10) ∷ []))
    more n ds h r rest =
        let d = (48 + n % 10) ∷ [] in
        let k : n % 10 < 10 = omega arith in
        let e : 10 * (n / 10) + n % 10 ≡ n = omega arith in
        let q = r ((48 + n % 10) ∷ rest) in
        (ap (number_from 0) (append_assoc ds d rest) ∙ q.0 ∙ number_from-digit (n / 10) (n % 10) n rest k e, ap after_digits (append_assoc ds d rest) ∙ q.1 ∙ after_digits-digit (n % 10) rest k)

pub number_from-end : (n : ℕ) (xs : List ℕ) → Lacks is_digit xs → number_from n xs ≡ n
number_from-end n [] h = refl
number_from-end n (c ∷ cs) h = ap (λ b. if b then number_from (10 * n + (c - 48)) cs else n) h

pub after_digits-end : (xs : List ℕ) → Lacks is_digit xs → after_digits xs ≡ xs
after_digits-end [] h = refl
after_digits-end (c ∷ cs) h = ap (λ b. if b then after_digits cs else c ∷ cs) h

-- a number is read from its digits
pub read_number : (n : ℕ) (xs : List ℕ) → Small n → Lacks is_digit xs → number_from 0 (decimal n ++ xs) ≡ n
read_number n xs s h = (reads n s xs).0 ∙ number_from-end n xs h

pub read_rest : (n : ℕ) (xs : List ℕ) → Small n → Lacks is_digit xs → after_digits (decimal n ++ xs) ≡ xs
read_rest n xs s h = (reads n s xs).1 ∙ after_digits-end xs h

-- one number and one rest
pub same_number : (n m : ℕ) (xs ys : List ℕ) → Small n → Small m → Lacks is_digit xs → Lacks is_digit ys → decimal n ++ xs ≡ decimal m ++ ys → (n ≡ m) × (xs ≡ ys)
same_number n m xs ys s t h k e =
    (sym (read_number n xs s h) ∙ ap (number_from 0) e ∙ read_number m ys t k, sym (read_rest n xs s h) ∙ ap after_digits e ∙ read_rest m ys t k)

-- the first digit, which is 0 for no other number
pub record Begins (n : ℕ) (ds : List ℕ) : Type 0 where
  pub first : ℕ
  pub others : List ℕ
  pub is : ds ≡ first ∷ others
  pub digit : is_digit first ≡ true
  pub apart : 0 < n → first ≢ 48

pub begins : (n : ℕ) → Small n → Begins n (decimal n)
begins = decimal_by_steps_wide Begins one more
  where
    one : (n : ℕ) → n < 10 → Begins n ((48 + n) ∷ [])
    one n h = record { first = 48 + n; others = []; is = refl; digit = is_digit-of n h; apart = λ p e. omega arith }

    more : (n : ℕ) (ds : List ℕ) → 10 ≤ n → Begins (n / 10) ds → Begins n (ds ++ ((48 + n % 10) ∷ []))
    more n ds h b = record { first = b.first; others = b.others ++ ((48 + n % 10) ∷ []); is = ap (λ l. l ++ ((48 + n % 10) ∷ [])) b.is; digit = b.digit; apart = λ p. b.apart (omega arith) }
