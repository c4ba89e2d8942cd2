-- The text of terms has the form, and its numbers are in range where those of the terms are.
use Rattle.std.specs.Prelude.{◌≡◌, ◌≢◌, ℕ, zero, suc, ◌+◌, ◌-◌, ◌*◌, ◌^◌, ◌<◌, ◌≤◌, Bool, true, false, ◌&&◌, ◌||◌, not, ◌==◌, nat_le, if◌then◌else◌, ℤ, pos, negsuc, unsigned_abs, List, [], ◌∷◌, ◌++◌, decimal, codes, refl}
use Rattle.std.proofs.Common.{sym, ◌∙◌, ap, subst, arith}
use Rattle.std.proofs.lemmas.Bool.Decides.{nat_tests}
use Rattle.std.proofs.lemmas.Fmt.{decimal_digit}
use Rattle.std.specs.List.{AllByRecursion}
use Rattle.sparse_poly.specs.declared.Term.{Term}
use Rattle.sparse_poly.specs.Contributions.{max_coeff}
use Rattle.poly_text.specs.Text.{more_factors, body_text, sign_text, more_terms, poly_text}
use Rattle.poly_text.specs.Form.{is_digit, begin_term, after_term, after_factor, after_variable, next}
use Rattle.poly_text.specs.Numbers.{number_from, after_digits, starts_number, in_range, is_out, IsFactorInRange, IsTermInRange, AreInRange}
use Rattle.poly_text.specs.Fronts.{IsLive, IsAfterTerm}
use Rattle.poly_text.specs.State.{State, Start, Signed, Zero, One, Coefficient, Times, Letter, VariableZero, Variable, Caret, FactorEnd, Exponent, Wrong}
use Rattle.poly_text.proofs.Digits.{below_test, Small, Lacks, begins, read_number, read_rest}
use Rattle.poly_text.proofs.Alone.{goes_on, continues, no_digit, is_equal, power_text, factor_shown, more_shown, factors_lack, is_written, body_written, body_bare, same_tail}
use Rattle.poly_text.proofs.Fronts.{step, step_back, not_wrong, Keeps, keeps_coefficient, keeps_variable, keeps_exponent, before_digits, Alike, alike, after_end}
use Rattle.sparse_poly.proofs.PrimitiveParts.{some_size}

-- ---- numbers

-- a number in range that begins here
not_out : (u : ℕ) (s : State) (c n : ℕ) (cs : List ℕ) → number_from 0 (c ∷ cs) ≡ n → in_range u s n ≡ true → is_out u s (c ∷ cs) ≡ false
not_out u s c n cs e h = off (starts_number s && is_digit c) (in_range u s (number_from 0 (c ∷ cs))) (ap (in_range u s) e ∙ h)
  where
    off : (a r : Bool) → r ≡ true → (a && not r) ≡ false
    off true true h = refl
    off true false h = absurd (cc)
    off false r h = refl

-- a number that is not 0, behind a state from which its first digit leads to one that digits keep
positive_live : (u n : ℕ) (s k : State) (zs : List ℕ) → Small n → 0 < n → Keeps k → ((c : ℕ) (cs : List ℕ) → is_digit c ≡ true → c ≢ 48 → number_from 0 (c ∷ cs) ≡ n → IsLive u k cs → IsLive u (next s c) cs) → in_range u s n ≡ true → Lacks is_digit zs → IsLive u k zs → IsLive u s (decimal n ++ zs)
positive_live u n s k zs small some keeps leads r lacks l =
    let b = begins n small in
    let shown : decimal n ++ zs ≡ b.first ∷ (b.others ++ zs) = ap (λ t. t ++ zs) b.is in
    let value : number_from 0 (b.first ∷ (b.others ++ zs)) ≡ n = sym (ap (number_from 0) shown) ∙ read_number n zs small lacks in
    let rest : after_digits (b.others ++ zs) ≡ zs = ap (λ v. if v then after_digits (b.others ++ zs) else b.first ∷ (b.others ++ zs)) (sym b.digit) ∙ sym (ap after_digits shown) ∙ read_rest n zs small lacks in
    let behind : IsLive u k (b.others ++ zs) = before_digits u k (b.others ++ zs) keeps (subst (IsLive u k) (sym rest) l) in
    subst (IsLive u s) (sym shown) (step_back u s b.first (b.others ++ zs) (leads b.first (b.others ++ zs) b.digit (b.apart some) value behind) (not_out u s b.first n (b.others ++ zs) value r))

other_byte : (c k : ℕ) → c ≢ k → (c == k) ≡ false
other_byte c k h = grind (arith, nat_tests)

zero_variable : Alike is_digit VariableZero Variable
zero_variable = record { same_next = λ c e. sym (ap (λ b. if b then Variable else after_variable c) e); same_end = refl; starts = refl }

end_exponent : Alike is_digit FactorEnd Exponent
end_exponent = record { same_next = λ c e. sym (ap (λ b. if b then Exponent else after_factor c) e); same_end = refl; starts = refl }

end_coefficient : Alike is_digit FactorEnd Coefficient
end_coefficient = record { same_next = λ c e. sym (ap (λ b. if b then Coefficient else after_factor c) e); same_end = refl; starts = refl }

end_zero : Alike (λ c. c == 94) FactorEnd VariableZero
end_zero = record { same_next = λ c e. sym (ap (λ b. if b then Caret else after_factor c) e); same_end = refl; starts = refl }

variable_live : (u v : ℕ) (zs : List ℕ) → u ≤ 2 ^ 32 → v < u → Lacks is_digit zs → IsLive u VariableZero zs → IsLive u Letter (decimal v ++ zs)
variable_live u zero zs b h k l = subst (λ t. IsLive u Letter (t ++ zs)) (sym (decimal_digit 0 (omega arith))) (step_back u Letter 48 zs l (not_out u Letter 48 0 zs (value zs k) (below_test 0 u h)))
  where
    value : (cs : List ℕ) → Lacks is_digit cs → number_from 0 (48 ∷ cs) ≡ 0
    value [] k = refl
    value (d ∷ ds) k = ap (λ v. if v then number_from (10 * 0 + (d - 48)) ds else 0) k
variable_live u (suc v) zs b h k l =
    positive_live u (suc v) Letter Variable zs (omega arith) (omega arith) keeps_variable leads (below_test (suc v) u h) k (alike u is_digit VariableZero Variable zs zero_variable k l)
  where
    leads : (c : ℕ) (cs : List ℕ) → is_digit c ≡ true → c ≢ 48 → number_from 0 (c ∷ cs) ≡ suc v → IsLive u Variable cs → IsLive u (next Letter c) cs
    leads c cs d n e l = subst (λ s. IsLive u s cs) (sym (ap (λ b. if b then VariableZero else (if is_digit c then Variable else Wrong)) (other_byte c 48 n) ∙ ap (λ b. if b then Variable else Wrong) d)) l

exponent_test : (e : ℕ) → 2 ≤ e → e ≤ 65535 → (nat_le 2 e && nat_le e 65535) ≡ true
exponent_test e h k = grind (arith, nat_tests)

exponent_live : (u e : ℕ) (zs : List ℕ) → 2 ≤ e → e ≤ 65535 → Lacks is_digit zs → IsLive u FactorEnd zs → IsLive u Caret (decimal e ++ zs)
exponent_live u e zs h g k l =
    positive_live u e Caret Exponent zs (omega arith) (omega arith) keeps_exponent leads (exponent_test e h g) k (alike u is_digit FactorEnd Exponent zs end_exponent k l)
  where
    leads : (c : ℕ) (cs : List ℕ) → is_digit c ≡ true → c ≢ 48 → number_from 0 (c ∷ cs) ≡ e → IsLive u Exponent cs → IsLive u (next Caret c) cs
    leads c cs d n e l = subst (λ s. IsLive u s cs) (sym (ap (λ b. if b then FactorEnd else (if is_digit c then Exponent else Wrong)) (other_byte c 48 n) ∙ ap (λ b. if b then Exponent else Wrong) d)) l

-- ---- factors

no_caret : (xs : List ℕ) → Lacks continues xs → Lacks (λ c. c == 94) xs
no_caret [] h = tt
no_caret (c ∷ cs) h = other (is_digit c) (c == 94) h
  where
    other : (a b : Bool) → (a || b) ≡ false → b ≡ false
    other true b h = absurd (cc)
    other false b h = h

power_live : (u e : ℕ) (ys : List ℕ) → 0 < e → e ≤ 65535 → Lacks continues ys → IsLive u FactorEnd ys → Lacks is_digit (power_text e ++ ys) × IsLive u VariableZero (power_text e ++ ys)
power_live u e ys some high k l = by (e == 1) refl
  where
    several : (e : ℕ) → 0 < e → (e == 1) ≡ false → 2 ≤ e
    several e h k = grind (arith, nat_tests)

    by : (v : Bool) → (e == 1) ≡ v → Lacks is_digit ((if v then [] else codes "^" ++ decimal e) ++ ys) × IsLive u VariableZero ((if v then [] else codes "^" ++ decimal e) ++ ys)
    by true q = (no_digit ys k, alike u (λ c. c == 94) FactorEnd VariableZero ys end_zero (no_caret ys k) l)
    by false q = (refl, step_back u VariableZero 94 (decimal e ++ ys) (exponent_live u e ys (several e some q) high (no_digit ys k) l) refl)

factor_live : (u : ℕ) (p : ℕ × ℕ) (ys : List ℕ) → u ≤ 2 ^ 32 → IsFactorInRange u p → Lacks continues ys → IsLive u FactorEnd ys → IsLive u Letter (decimal p.0 ++ (power_text p.1 ++ ys))
factor_live u p ys b h k l = let w = power_live u p.1 ys h.1 h.2 k l in variable_live u p.0 (power_text p.1 ++ ys) b h.0 w.0 w.1

after_lacks : (u : ℕ) (xs : List ℕ) → IsAfterTerm u xs → Lacks goes_on xs
after_lacks u [] h = tt
after_lacks u (c ∷ cs) h = by (c == 43) (c == 45) refl refl h.0
  where
    by : (v w : Bool) → (c == 43) ≡ v → (c == 45) ≡ w → (if v then Signed else (if w then Signed else Wrong)) ≡ Signed → goes_on c ≡ false
    by true w p q e = ap goes_on (is_equal c 43 p)
    by false true p q e = ap goes_on (is_equal c 45 q)
    by false false p q e = absurd (cc)

factors_live : (u : ℕ) (ps : List (ℕ × ℕ)) (xs : List ℕ) → u ≤ 2 ^ 32 → AllByRecursion (IsFactorInRange u) ps → IsAfterTerm u xs → IsLive u FactorEnd (more_factors ps ++ xs)
factors_live u [] xs b h a = after_end u xs a
factors_live u (p ∷ ps) xs b h a =
    let rest = more_factors ps ++ xs in
    let behind : IsLive u Letter (decimal p.0 ++ (power_text p.1 ++ rest)) = factor_live u p rest b h.0 (factors_lack ps xs (after_lacks u xs a)) (factors_live u ps xs b h.1 a) in
    let shown : more_factors (p ∷ ps) ++ xs ≡ 42 ∷ 120 ∷ (decimal p.0 ++ (power_text p.1 ++ rest)) = more_shown p ps xs ∙ ap (λ l. 42 ∷ l) (factor_shown p rest) in
    subst (IsLive u FactorEnd) (sym shown) (step_back u FactorEnd 42 (120 ∷ (decimal p.0 ++ (power_text p.1 ++ rest))) (step_back u Times 120 (decimal p.0 ++ (power_text p.1 ++ rest)) behind refl) refl)

-- ---- terms

-- a coefficient that is not 1
coefficient_live : (u n : ℕ) (zs : List ℕ) → 2 ≤ n → n ≤ max_coeff → Lacks is_digit zs → IsLive u FactorEnd zs → IsLive u Signed (decimal n ++ zs)
coefficient_live u n zs h g k l =
    positive_live u n Signed Coefficient zs (omega arith) (omega arith) keeps_coefficient leads (range n g) k (alike u is_digit FactorEnd Coefficient zs end_coefficient k l)
  where
    range : (n : ℕ) → n ≤ max_coeff → nat_le n max_coeff ≡ true
    range n h = grind (arith, nat_tests)

    one : (cs : List ℕ) → number_from 0 (49 ∷ cs) ≡ n → IsLive u Coefficient cs → IsLive u One cs
    one [] e l = absurd (omega arith)
    one (d ∷ ds) e l = by (is_digit d) refl
      where
        by : (v : Bool) → is_digit d ≡ v → IsLive u One (d ∷ ds)
        by true q = step_back u One d ds (subst (λ s. IsLive u s ds) (ap (λ v. if v then Coefficient else after_factor d) q ∙ sym (ap (λ v. if v then Coefficient else after_term d) q)) (step u Coefficient d ds l).live) refl
        by false q = let w : number_from 0 (49 ∷ d ∷ ds) ≡ 1 = ap (λ v. if v then number_from (10 * 1 + (d - 48)) ds else 1) q in absurd (omega (arith, w))

    digit_above : (c : ℕ) → is_digit c ≡ true → c ≢ 48 → c ≢ 49 → (nat_le 50 c && nat_le c 57) ≡ true
    digit_above c d a b = let r : (48 ≤ c) × (c ≤ 57) = grind (arith, nat_tests) in let low = r.0 in let high = r.1 in grind (arith, nat_tests)

    apart : (c : ℕ) → (c == 49) ≡ false → c ≢ 49
    apart c h = grind (arith, nat_tests)

    leads : (c : ℕ) (cs : List ℕ) → is_digit c ≡ true → c ≢ 48 → number_from 0 (c ∷ cs) ≡ n → IsLive u Coefficient cs → IsLive u (next Signed c) cs
    leads c cs d a e l = by (c == 49) refl
      where
        by : (v : Bool) → (c == 49) ≡ v → IsLive u (if v then One else (if nat_le 50 c && nat_le c 57 then Coefficient else (if c == 120 then Letter else Wrong))) cs
        by true q = one cs (sym (ap (λ k. number_from 0 (k ∷ cs)) (is_equal c 49 q)) ∙ e) l
        by false q = subst (λ s. IsLive u s cs) (sym (ap (λ v. if v then Coefficient else (if c == 120 then Letter else Wrong)) (digit_above c d a (apart c q)))) l

-- a coefficient 1, which no factor follows
one_live : (u : ℕ) (xs : List ℕ) → IsAfterTerm u xs → IsLive u Signed (decimal 1 ++ xs)
one_live u xs a = subst (λ t. IsLive u Signed (t ++ xs)) (sym (decimal_digit 1 (omega arith))) (step_back u Signed 49 xs (behind xs a) (not_out u Signed 49 1 xs (value xs (no_digit xs (lacks xs a))) refl))
  where
    lacks : (xs : List ℕ) → IsAfterTerm u xs → Lacks continues xs
    lacks xs a = factors_lack [] xs (after_lacks u xs a)

    value : (cs : List ℕ) → Lacks is_digit cs → number_from 0 (49 ∷ cs) ≡ 1
    value [] k = refl
    value (d ∷ ds) k = ap (λ v. if v then number_from (10 * 1 + (d - 48)) ds else 1) k

    behind : (cs : List ℕ) → IsAfterTerm u cs → IsLive u One cs
    behind [] h = record { form = refl; numbers = refl }
    behind (d ∷ ds) h = step_back u One d ds (subst (λ s. IsLive u s ds) (sym (ap (λ v. if v then Coefficient else after_term d) (no_digit (d ∷ ds) (lacks (d ∷ ds) h)) ∙ h.0)) h.1) refl

body_live : (u n : ℕ) (ps : List (ℕ × ℕ)) (xs : List ℕ) → u ≤ 2 ^ 32 → 0 < n → n ≤ max_coeff → AllByRecursion (IsFactorInRange u) ps → IsAfterTerm u xs → IsLive u Signed (body_text n ps ++ xs)
body_live u n ps xs b some high h a = by (n == 1) refl (is_written n ps) refl ps refl h
  where
    several : (n : ℕ) → 0 < n → (n == 1) ≡ false → 2 ≤ n
    several n h k = grind (arith, nat_tests)

    by : (v : Bool) → (n == 1) ≡ v → (w : Bool) → is_written n ps ≡ w → (qs : List (ℕ × ℕ)) → qs ≡ ps → AllByRecursion (IsFactorInRange u) qs → IsLive u Signed (body_text n ps ++ xs)
    by false e true q qs r k = subst (IsLive u Signed) (sym (body_written n ps xs q)) (coefficient_live u n (more_factors ps ++ xs) (several n some e) high (no_digit (more_factors ps ++ xs) (factors_lack ps xs (after_lacks u xs a))) (factors_live u ps xs b h a))
    by true e true q [] r k = subst (λ t. IsLive u Signed (body_text n t ++ xs)) r (subst (λ m. IsLive u Signed (decimal m ++ xs)) (sym (is_equal n 1 e)) (one_live u xs a))
    by true e true q (p ∷ qs) r k = let z : false ≡ true = sym (ap not e) ∙ ap (is_written n) r ∙ q in absurd (cc)
    by v e false q [] r k = let z : true ≡ false = ap (is_written n) r ∙ q in absurd (cc)
    by v e false q (p ∷ qs) r k =
        let shown : body_text n ps ++ xs ≡ 120 ∷ (decimal p.0 ++ (power_text p.1 ++ (more_factors qs ++ xs))) = same_tail 42 42 _ _ ((body_bare n ps xs q).1 ∙ ap (λ t. more_factors t ++ xs) (sym r) ∙ more_shown p qs xs) ∙ factor_shown p (more_factors qs ++ xs) in
        subst (IsLive u Signed) (sym shown) (step_back u Signed 120 (decimal p.0 ++ (power_text p.1 ++ (more_factors qs ++ xs))) (factor_live u p (more_factors qs ++ xs) b k.0 (factors_lack qs xs (after_lacks u xs a)) (factors_live u qs xs b k.1 a)) refl)

term_live : (u : ℕ) (t : Term) (xs : List ℕ) → u ≤ 2 ^ 32 → IsTermInRange u t → IsAfterTerm u xs → IsLive u Signed (body_text (unsigned_abs t.coeff) t.monomial ++ xs)
term_live u t xs b h a = body_live u (unsigned_abs t.coeff) t.monomial xs b (some_size t.coeff h.apart) h.in_range h.factors a

further_live : (u : ℕ) (z : ℤ) (bs xs : List ℕ) → IsLive u Signed (bs ++ xs) → IsAfterTerm u ((sign_text (codes "+") z ++ bs) ++ xs)
further_live u (pos n) bs xs h = (refl, h)
further_live u (negsuc n) bs xs h = (refl, h)

terms_live : (u : ℕ) (ts : List Term) → u ≤ 2 ^ 32 → AreInRange u ts → IsAfterTerm u (more_terms ts)
terms_live u [] b h = tt
terms_live u (t ∷ ts) b h = further_live u t.coeff (body_text (unsigned_abs t.coeff) t.monomial) (more_terms ts) (term_live u t (more_terms ts) b h.0 (terms_live u ts b h.1))

-- a first term that is not negative
start_live : (u : ℕ) (xs : List ℕ) → IsLive u Signed xs → IsLive u Start xs
start_live u [] h = let e : false ≡ true = h.form in absurd (cc)
start_live u (c ∷ cs) h = step_back u Start c cs (by (c == 45) (c == 48) refl refl (step u Signed c cs h).live) (step u Signed c cs h).here
  where
    by : (v w : Bool) → (c == 45) ≡ v → (c == 48) ≡ w → IsLive u (begin_term c) cs → IsLive u (if v then Signed else (if w then Zero else begin_term c)) cs
    by true w p q l = absurd (not_wrong u cs (subst (λ d. IsLive u (begin_term d) cs) (is_equal c 45 p) l))
    by false true p q l = absurd (not_wrong u cs (subst (λ d. IsLive u (begin_term d) cs) (is_equal c 48 q) l))
    by false false p q l = l

first_live : (u : ℕ) (z : ℤ) (bs xs : List ℕ) → IsLive u Signed (bs ++ xs) → IsLive u Start ((sign_text [] z ++ bs) ++ xs)
first_live u (pos n) bs xs h = start_live u (bs ++ xs) h
first_live u (negsuc n) bs xs h = step_back u Start 45 (bs ++ xs) h refl

-- the text of terms whose numbers are in range
pub written : (u : ℕ) (ts : List Term) → u ≤ 2 ^ 32 → AreInRange u ts → IsLive u Start (poly_text ts)
written u [] b h = record { form = refl; numbers = refl }
written u (t ∷ ts) b h = first_live u t.coeff (body_text (unsigned_abs t.coeff) t.monomial) (more_terms ts) (term_live u t (more_terms ts) b h.0 (terms_live u ts b h.1))
