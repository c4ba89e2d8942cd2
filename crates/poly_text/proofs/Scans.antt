-- What a text says from a state on, part by part.
use Rattle.std.specs.Prelude.{◌≡◌, ◌≢◌, ℕ, suc, ◌+◌, ◌-◌, ◌*◌, ◌^◌, ◌<◌, ◌≤◌, Bool, true, false, ◌&&◌, ◌||◌, not, ◌==◌, nat_lt, nat_le, if◌then◌else◌, Option, Ok, Err, List, [], ◌∷◌, ◌++◌, length, drop, get_or, refl}
use Rattle.std.proofs.Common.{sym, ◌∙◌, ap, subst, arith}
use Rattle.std.proofs.lemmas.Bool.Decides.{nat_tests}
use Rattle.sparse_poly.specs.declared.Term.{Term}
use Rattle.sparse_poly.specs.Contributions.{max_coeff}
use Rattle.poly_text.specs.State.{State, Start, Signed, Zero, One, Coefficient, Letter, VariableZero, Variable, Caret, FactorEnd, Exponent, Wrong}
use Rattle.poly_text.specs.Form.{is_digit, begin_term, after_term, next}
use Rattle.poly_text.specs.Numbers.{number_from, after_digits, starts_number, in_range, is_out}
use Rattle.poly_text.specs.Scan.{is_wrong, first_of, noted, scan, scan_end, scan_terms}
use Rattle.poly_text.specs.Fronts.{IsLive, begins_with, begins_with_digit, ends_term, after_sign, IsNumberFront, IsNumberRead, IsCoefficientRead}
use Rattle.poly_text.specs.Places.{IsAtSign}
use Rattle.poly_text.proofs.NumberRuns.{number_from-le, number_step, rest_step}
use Rattle.poly_text.proofs.Digits.{number_from-end, after_digits-end, Lacks, below_test}
use Rattle.poly_text.proofs.Alone.{is_equal}
use Rattle.poly_text.proofs.Fronts.{step, after_digits-le, Keeps, keeps_coefficient, keeps_variable, keeps_exponent, not_out, after_digits-lacks, Alike, variable_zero, exponent_end, coefficient_end}

-- ---- one byte

not_noted : (u : ℕ) (s : State) (c : ℕ) (cs : List ℕ) (f : Option ℕ) → starts_number s ≡ false → noted u s (c ∷ cs) f ≡ f
not_noted u s c cs f h = ap (λ b. if b then first_of f (suc (length cs)) else f) (not_out u s c cs h)

noted_step : (u : ℕ) (f : Option ℕ) (s t : State) (c : ℕ) (cs : List ℕ) → next s c ≡ t → is_wrong t ≡ false → scan u f s (c ∷ cs) ≡ scan u (noted u s (c ∷ cs) f) t cs
noted_step u f s t c cs e w =
    ap (λ n. if is_wrong n then Err (suc (length cs)) else scan u (noted u s (c ∷ cs) f) n cs) e
    ∙ ap (λ b. if b then Err (suc (length cs)) else scan u (noted u s (c ∷ cs) f) t cs) w

scan_step : (u : ℕ) (f : Option ℕ) (s t : State) (c : ℕ) (cs : List ℕ) → starts_number s ≡ false → next s c ≡ t → is_wrong t ≡ false → scan u f s (c ∷ cs) ≡ scan u f t cs
scan_step u f s t c cs n e w = noted_step u f s t c cs e w ∙ ap (λ g. scan u g t cs) (not_noted u s c cs f n)

scan_wrong : (u : ℕ) (f : Option ℕ) (s : State) (c : ℕ) (cs : List ℕ) → next s c ≡ Wrong → scan u f s (c ∷ cs) ≡ Err (suc (length cs))
scan_wrong u f s c cs e = ap (λ n. if is_wrong n then Err (suc (length cs)) else scan u (noted u s (c ∷ cs) f) n cs) e

-- a byte that is no digit
pub byte_scan : (u : ℕ) (f : Option ℕ) (s t : State) (k : ℕ) (text : List ℕ) → begins_with text k ≡ true → next s k ≡ t → is_wrong t ≡ false → is_digit k ≡ false → scan u f s text ≡ scan u f t (drop 1 text)
byte_scan u f s t k [] b e w d = absurd (cc)
byte_scan u f s t k (c ∷ cs) b e w d =
    let q : c ≡ k = is_equal c k b in
    noted_step u f s t c cs (ap (next s) q ∙ e) w
    ∙ ap (λ o. scan u (if o then first_of f (suc (length cs)) else f) t cs) (off (starts_number s) (is_digit c) (in_range u s (number_from 0 (c ∷ cs))) (ap is_digit q ∙ d))
  where
    off : (a b r : Bool) → b ≡ false → (a && b && not r) ≡ false
    off true false r h = refl
    off true true r h = absurd (cc)
    off false b r h = refl

-- ---- digits

scan_digits : (u : ℕ) (f : Option ℕ) (s : State) (cs : List ℕ) → Keeps s → is_wrong s ≡ false → scan u f s cs ≡ scan u f s (after_digits cs)
scan_digits u f s [] k w = refl
scan_digits u f s (c ∷ cs) k w = by (is_digit c) refl (scan_digits u f s cs k w)
  where
    by : (b : Bool) → is_digit c ≡ b → scan u f s cs ≡ scan u f s (after_digits cs) → scan u f s (c ∷ cs) ≡ scan u f s (if b then after_digits cs else c ∷ cs)
    by true e further = scan_step u f s s c cs k.starts (k.next_digit c e) w ∙ further
    by false e further = refl

scan_alike : (u : ℕ) (f : Option ℕ) (g : ℕ → Bool) (s t : State) (xs : List ℕ) → Alike g s t → starts_number s ≡ false → Lacks g xs → scan u f s xs ≡ scan u f t xs
scan_alike u f g s t [] a n l = ap (λ b. if b then Ok f else Err 0) a.same_end
scan_alike u f g s t (c ∷ cs) a n l =
    ap (λ r. if is_wrong r then Err (suc (length cs)) else scan u (noted u s (c ∷ cs) f) r cs) (a.same_next c l)
    ∙ ap (λ o. if is_wrong (next t c) then Err (suc (length cs)) else scan u o (next t c) cs) (not_noted u s c cs f n ∙ sym (not_noted u t c cs f a.starts))

lacks_digit : (cs : List ℕ) → begins_with_digit cs ≡ false → Lacks is_digit cs
lacks_digit [] h = tt
lacks_digit (c ∷ cs) h = h

-- ---- a variable or an exponent

-- behind state s stands a number without leading zeros, and behind that one may go on as from state z
record NumberAt (s z : State) : Type 0 where
  digits : State
  keeps : Keeps digits
  same : Alike is_digit digits z
  digits_live : is_wrong digits ≡ false
  end_live : is_wrong z ≡ false
  starts : starts_number s ≡ true
  zero : next s 48 ≡ z
  digit : (c : ℕ) → is_digit c ≡ true → (c == 48) ≡ false → next s c ≡ digits

letter : NumberAt Letter VariableZero
letter = record {
  digits = Variable;
  keeps = keeps_variable;
  same = variable_zero;
  digits_live = refl;
  end_live = refl;
  starts = refl;
  zero = refl;
  digit = λ c d n. ap (λ b. if b then VariableZero else (if is_digit c then Variable else Wrong)) n ∙ ap (λ b. if b then Variable else Wrong) d;
}

caret : NumberAt Caret FactorEnd
caret = record {
  digits = Exponent;
  keeps = keeps_exponent;
  same = exponent_end;
  digits_live = refl;
  end_live = refl;
  starts = refl;
  zero = refl;
  digit = λ c d n. ap (λ b. if b then FactorEnd else (if is_digit c then Exponent else Wrong)) n ∙ ap (λ b. if b then Exponent else Wrong) d;
}

number_scan : (u : ℕ) (f : Option ℕ) (s z : State) (text : List ℕ) → NumberAt s z → begins_with_digit text ≡ true → (begins_with text 48 ≡ true → begins_with_digit (drop 1 text) ≡ false) → scan u f s text ≡ scan u (noted u s text f) z (after_digits text)
number_scan u f s z [] a d w = absurd (cc)
number_scan u f s z (c ∷ cs) a d w = by (c == 48) refl
  where
    rest : after_digits cs ≡ after_digits (c ∷ cs)
    rest = sym (rest_step (c ∷ cs) d)

    by : (b : Bool) → (c == 48) ≡ b → scan u f s (c ∷ cs) ≡ scan u (noted u s (c ∷ cs) f) z (after_digits (c ∷ cs))
    by true e =
        noted_step u f s z c cs (ap (next s) (is_equal c 48 e) ∙ a.zero) a.end_live
        ∙ ap (scan u (noted u s (c ∷ cs) f) z) (sym (after_digits-end cs (lacks_digit cs (w e))) ∙ rest)
    by false e =
        noted_step u f s a.digits c cs (a.digit c d e) a.digits_live
        ∙ scan_digits u (noted u s (c ∷ cs) f) a.digits cs a.keeps a.digits_live
        ∙ scan_alike u (noted u s (c ∷ cs) f) is_digit a.digits z (after_digits cs) a.same a.keeps.starts (after_digits-lacks cs)
        ∙ ap (scan u (noted u s (c ∷ cs) f) z) rest

-- ---- numbers in range or out of it

noted_in : (u : ℕ) (s : State) (text : List ℕ) (f : Option ℕ) → in_range u s (number_from 0 text) ≡ true → noted u s text f ≡ f
noted_in u s [] f h = refl
noted_in u s (c ∷ cs) f h = ap (λ b. if b then first_of f (suc (length cs)) else f) (off (starts_number s && is_digit c) (in_range u s (number_from 0 (c ∷ cs))) h)
  where
    off : (a r : Bool) → r ≡ true → (a && not r) ≡ false
    off true true h = refl
    off true false h = absurd (cc)
    off false r h = refl

out_here : (u : ℕ) (s : State) (text : List ℕ) → starts_number s ≡ true → begins_with_digit text ≡ true → in_range u s (number_from 0 text) ≡ false → is_out u s text ≡ true
out_here u s [] a d h = absurd (cc)
out_here u s (c ∷ cs) a d h = on (starts_number s) (is_digit c) (in_range u s (number_from 0 (c ∷ cs))) a d h
  where
    on : (a b r : Bool) → a ≡ true → b ≡ true → r ≡ false → (a && b && not r) ≡ true
    on true true false p q h = refl
    on true true true p q h = absurd (cc)
    on true false r p q h = absurd (cc)
    on false b r p q h = absurd (cc)

noted_out : (u : ℕ) (s : State) (text : List ℕ) (f : Option ℕ) → is_out u s text ≡ true → noted u s text f ≡ first_of f (length text)
noted_out u s text f h = ap (λ b. if b then first_of f (length text) else f) h

not_live : (u : ℕ) (s : State) (text : List ℕ) → is_out u s text ≡ true → IsLive u s text → ⊥
not_live u s [] h l = absurd (cc)
not_live u s (c ∷ cs) h l = let e : true ≡ false = sym h ∙ (step u s c cs l).here in absurd (cc)

number_in : (u n : ℕ) (s z : State) (f : Option ℕ) (text rest : List ℕ) → NumberAt s z → IsNumberFront text n rest → n ≤ max_coeff → in_range u s n ≡ true → IsNumberRead u s z f f text n rest
number_in u n s z f text rest a k l r =
    let e : number_from 0 text ≡ n = k.exact l in
    record {
      same = number_scan u f s z text a k.digit k.whole ∙ ap (λ g. scan u g z (after_digits text)) (noted_in u s text f (ap (in_range u s) e ∙ r)) ∙ ap (scan u f z) (sym k.behind);
      value = λ l. sym e;
      behind = k.behind;
    }

number_out : (u n m : ℕ) (s z : State) (f : Option ℕ) (text rest : List ℕ) → NumberAt s z → IsNumberFront text n rest → in_range u s (number_from 0 text) ≡ false → IsNumberRead u s z f (first_of f (length text)) text m rest
number_out u n m s z f text rest a k r =
    let o = out_here u s text a.starts k.digit r in
    record {
      same = number_scan u f s z text a k.digit k.whole ∙ ap (λ g. scan u g z (after_digits text)) (noted_out u s text f o) ∙ ap (scan u (first_of f (length text)) z) (sym k.behind);
      value = λ l. absurd (not_live u s text o l);
      behind = k.behind;
    }

pub variable_in : (u n : ℕ) (f : Option ℕ) (text rest : List ℕ) → u < 2 ^ 32 → IsNumberFront text n rest → n < u → IsNumberRead u Letter VariableZero f f text n rest
variable_in u n f text rest s k l = number_in u n Letter VariableZero f text rest letter k (omega arith) (below_test n u l)

pub variable_out : (u n m : ℕ) (f : Option ℕ) (text rest : List ℕ) → u < 2 ^ 32 → IsNumberFront text n rest → u ≤ n → IsNumberRead u Letter VariableZero f (first_of f (length text)) text m rest
variable_out u n m f text rest s k l = number_out u n m Letter VariableZero f text rest letter k (above (number_from 0 text) n k.exact k.great l)
  where
    test : (k : ℕ) → u ≤ k → nat_lt k u ≡ false
    test k h = grind (arith, nat_tests)

    above : (k n : ℕ) → (n ≤ max_coeff → k ≡ n) → (max_coeff < n → max_coeff < k) → u ≤ n → nat_lt k u ≡ false
    above k n exact great h = test k (let g : u ≤ k = grind arith in g)

exponent_test : (n : ℕ) → 2 ≤ n → n ≤ 65535 → (nat_le 2 n && nat_le n 65535) ≡ true
exponent_test n h k = grind (arith, nat_tests)

pub exponent_in : (u n : ℕ) (f : Option ℕ) (text rest : List ℕ) → IsNumberFront text n rest → 2 ≤ n → n ≤ 65535 → IsNumberRead u Caret FactorEnd f f text n rest
exponent_in u n f text rest k l h = number_in u n Caret FactorEnd f text rest caret k (omega arith) (exponent_test n l h)

pub exponent_low : (u n m : ℕ) (f : Option ℕ) (text rest : List ℕ) → IsNumberFront text n rest → n < 2 → IsNumberRead u Caret FactorEnd f (first_of f (length text)) text m rest
exponent_low u n m f text rest k l = number_out u n m Caret FactorEnd f text rest caret k (test (number_from 0 text) (let e = k.exact (omega arith) in omega arith))
  where
    test : (k : ℕ) → k < 2 → (nat_le 2 k && nat_le k 65535) ≡ false
    test k h = grind (arith, nat_tests)

pub exponent_high : (u n m : ℕ) (f : Option ℕ) (text rest : List ℕ) → IsNumberFront text n rest → 65535 < n → IsNumberRead u Caret FactorEnd f (first_of f (length text)) text m rest
exponent_high u n m f text rest k l = number_out u n m Caret FactorEnd f text rest caret k (above (number_from 0 text) n k.exact k.great l)
  where
    test : (k : ℕ) → 65535 < k → (nat_le 2 k && nat_le k 65535) ≡ false
    test k h = grind (arith, nat_tests)

    above : (k n : ℕ) → (n ≤ max_coeff → k ≡ n) → (max_coeff < n → max_coeff < k) → 65535 < n → (nat_le 2 k && nat_le k 65535) ≡ false
    above k n exact great h = test k (let g : 65535 < k = grind arith in g)

-- ---- the end of a term

no_sign : (c : ℕ) → (c == 43) ≡ false → (c == 45) ≡ false → after_term c ≡ Wrong
no_sign c p q = ap (λ b. if b then Signed else (if c == 45 then Signed else Wrong)) p ∙ ap (λ b. if b then Signed else Wrong) q

a_sign : (c : ℕ) → ((c == 43) || (c == 45)) ≡ true → after_term c ≡ Signed
a_sign c h = by (c == 43) (c == 45) h
  where
    by : (v w : Bool) → (v || w) ≡ true → (if v then Signed else (if w then Signed else Wrong)) ≡ Signed
    by true w h = refl
    by false true h = refl
    by false false h = absurd (cc)

end_wrong : (u : ℕ) (f : Option ℕ) (c : ℕ) (cs : List ℕ) → after_term c ≡ Wrong → scan_end u f (c ∷ cs) ≡ Err (suc (length cs))
end_wrong u f c cs e = ap (λ s. if is_wrong s then Err (suc (length cs)) else scan u f Signed cs) e

end_sign : (u : ℕ) (f : Option ℕ) (c : ℕ) (cs : List ℕ) → after_term c ≡ Signed → scan_end u f (c ∷ cs) ≡ scan u f Signed cs
end_sign u f c cs e = ap (λ s. if is_wrong s then Err (suc (length cs)) else scan u f Signed cs) e

-- a state behind which only a sign may stand
end_scan : (u : ℕ) (f : Option ℕ) (s : State) (c : ℕ) (cs : List ℕ) → starts_number s ≡ false → next s c ≡ after_term c → scan u f s (c ∷ cs) ≡ scan_end u f (c ∷ cs)
end_scan u f s c cs n e = by ((c == 43) || (c == 45)) refl
  where
    none : (v w : Bool) → (v || w) ≡ false → (v ≡ false) × (w ≡ false)
    none false false h = (refl, refl)
    none true w h = absurd (cc)
    none false true h = absurd (cc)

    by : (b : Bool) → ((c == 43) || (c == 45)) ≡ b → scan u f s (c ∷ cs) ≡ scan_end u f (c ∷ cs)
    by true h = scan_step u f s Signed c cs n (e ∙ a_sign c h) refl ∙ sym (end_sign u f c cs (a_sign c h))
    by false h =
        let k = none (c == 43) (c == 45) h in
        let w = no_sign c k.0 k.1 in
        scan_wrong u f s c cs (e ∙ w) ∙ sym (end_wrong u f c cs w)

one_end_scan : (u : ℕ) (f : Option ℕ) (rest : List ℕ) → begins_with_digit rest ≡ false → scan u f One rest ≡ scan_end u f rest
one_end_scan u f [] h = refl
one_end_scan u f (c ∷ cs) h = end_scan u f One c cs refl (ap (λ b. if b then Coefficient else after_term c) h)

-- ---- a coefficient

one_digit_scan : (u : ℕ) (f : Option ℕ) (cs : List ℕ) → begins_with_digit cs ≡ true → scan u f One cs ≡ scan u f Coefficient cs
one_digit_scan u f [] h = absurd (cc)
one_digit_scan u f (d ∷ ds) h =
    scan_step u f One Coefficient d ds refl (ap (λ b. if b then Coefficient else after_term d) h) refl
    ∙ sym (scan_step u f Coefficient Coefficient d ds refl (keeps_coefficient.next_digit d h) refl)

coefficient_digits : (u : ℕ) (f : Option ℕ) (cs : List ℕ) → scan u f Coefficient cs ≡ scan u f FactorEnd (after_digits cs)
coefficient_digits u f cs = scan_digits u f Coefficient cs keeps_coefficient refl ∙ scan_alike u f is_digit Coefficient FactorEnd (after_digits cs) coefficient_end refl (after_digits-lacks cs)

record CoefficientScan (u : ℕ) (f : Option ℕ) (text : List ℕ) : Type 0 where
  one : number_from 0 text ≡ 1 → scan u f Signed text ≡ scan_end u (noted u Signed text f) (after_digits text)
  other : number_from 0 text ≢ 1 → scan u f Signed text ≡ scan u (noted u Signed text f) FactorEnd (after_digits text)
  shorter : length (after_digits text) < length text

rest_shorter : (cs : List ℕ) → begins_with_digit cs ≡ true → length (after_digits cs) < length cs
rest_shorter [] h = absurd (cc)
rest_shorter (c ∷ cs) h = let e = ap length (rest_step (c ∷ cs) h) in let l = after_digits-le cs in omega (arith, e)

-- behind a 1
one_scan : (u : ℕ) (f : Option ℕ) (cs : List ℕ) → CoefficientScan u f (49 ∷ cs)
one_scan u f cs = by (begins_with_digit cs) refl
  where
    g : Option ℕ
    g = noted u Signed (49 ∷ cs) f

    first : scan u f Signed (49 ∷ cs) ≡ scan u g One cs
    first = noted_step u f Signed One 49 cs refl refl

    by : (b : Bool) → begins_with_digit cs ≡ b → CoefficientScan u f (49 ∷ cs)
    by true h =
        let e = number_step 1 cs h in
        let le = number_from-le (10 * 1 + (get_or cs 0 0 - 48)) (drop 1 cs) in
        record {
          one = λ q. absurd (let w : number_from 1 cs ≡ 1 = q in omega (arith, e, w, le));
          other = λ q. first ∙ one_digit_scan u g cs h ∙ coefficient_digits u g cs;
          shorter = rest_shorter (49 ∷ cs) refl;
        }
    by false h = record {
      one = λ q. first ∙ one_end_scan u g cs h ∙ ap (scan_end u g) (sym (after_digits-end cs (lacks_digit cs h)));
      other = λ q. absurd (q (number_from-end 1 cs (lacks_digit cs h)));
      shorter = rest_shorter (49 ∷ cs) refl;
    }

coefficient_scan : (u : ℕ) (f : Option ℕ) (text : List ℕ) → begins_with_digit text ≡ true → begins_with text 48 ≡ false → CoefficientScan u f text
coefficient_scan u f [] d z = absurd (cc)
coefficient_scan u f (c ∷ cs) d z = by (c == 49) refl
  where
    rest : after_digits cs ≡ after_digits (c ∷ cs)
    rest = sym (rest_step (c ∷ cs) d)

    g : Option ℕ
    g = noted u Signed (c ∷ cs) f

    above : (c : ℕ) → is_digit c ≡ true → (c == 48) ≡ false → (c == 49) ≡ false → (50 ≤ c) × ((nat_le 50 c && nat_le c 57) ≡ true)
    above c d z o = let r : (48 ≤ c) × (c ≤ 57) = grind (arith, nat_tests) in let low = r.0 in let high = r.1 in let k : 50 ≤ c = grind (arith, nat_tests) in (k, grind (arith, nat_tests))

    by : (b : Bool) → (c == 49) ≡ b → CoefficientScan u f (c ∷ cs)
    by true e = subst (λ k. CoefficientScan u f (k ∷ cs)) (sym (is_equal c 49 e)) (one_scan u f cs)
    by false e =
        let k = above c d z e in
        let low = k.0 in
        let first = ap (λ b. if b then number_from (10 * 0 + (c - 48)) cs else 0) d in
        let le = number_from-le (10 * 0 + (c - 48)) cs in
        let to : next Signed c ≡ Coefficient = ap (λ b. if b then One else (if nat_le 50 c && nat_le c 57 then Coefficient else (if c == 120 then Letter else Wrong))) e ∙ ap (λ b. if b then Coefficient else (if c == 120 then Letter else Wrong)) k.1 in
        record {
          one = λ q. absurd (let w : number_from 0 (c ∷ cs) ≡ 1 = q in omega (arith, first, w, le));
          other = λ q. noted_step u f Signed Coefficient c cs to refl ∙ coefficient_digits u g cs ∙ ap (scan u g FactorEnd) rest;
          shorter = rest_shorter (c ∷ cs) d;
        }

pub coefficient_in : (u n : ℕ) (f : Option ℕ) (text rest : List ℕ) → begins_with_digit text ≡ true → begins_with text 48 ≡ false → (n ≤ max_coeff → number_from 0 text ≡ n) → rest ≡ after_digits text → n ≤ max_coeff → IsCoefficientRead u f f text n rest
coefficient_in u n f text rest d z exact behind l =
    let e : number_from 0 text ≡ n = exact l in
    let k = coefficient_scan u f text d z in
    let same = noted_in u Signed text f (ap (λ m. nat_le m max_coeff) e ∙ test n l) in
    record {
      one = λ q. k.one (e ∙ q) ∙ ap (λ g. scan_end u g (after_digits text)) same ∙ ap (scan_end u f) (sym behind);
      other = λ q. k.other (λ r. q (sym e ∙ r)) ∙ ap (λ g. scan u g FactorEnd (after_digits text)) same ∙ ap (scan u f FactorEnd) (sym behind);
      small = l;
      value = λ h. sym e;
      behind = behind;
      shorter = rw behind k.shorter;
    }
  where
    test : (n : ℕ) → n ≤ max_coeff → nat_le n max_coeff ≡ true
    test n h = grind (arith, nat_tests)

pub coefficient_out : (u n : ℕ) (f : Option ℕ) (text rest : List ℕ) → begins_with_digit text ≡ true → begins_with text 48 ≡ false → (max_coeff < n → max_coeff < number_from 0 text) → rest ≡ after_digits text → max_coeff < n → IsCoefficientRead u f (first_of f (length text)) text max_coeff rest
coefficient_out u n f text rest d z great behind l =
    let a : max_coeff < number_from 0 text = great l in
    let k = coefficient_scan u f text d z in
    let o = out_here u Signed text refl d (test (number_from 0 text) a) in
    let same = noted_out u Signed text f o in
    record {
      one = λ q. absurd (omega arith);
      other = λ q. k.other (λ r. omega (arith, r, a)) ∙ ap (λ g. scan u g FactorEnd (after_digits text)) same ∙ ap (scan u (first_of f (length text)) FactorEnd) (sym behind);
      small = omega arith;
      value = λ h. absurd (not_live u Signed text o h);
      behind = behind;
      shorter = rw behind k.shorter;
    }
  where
    test : (n : ℕ) → max_coeff < n → nat_le n max_coeff ≡ false
    test n h = grind (arith, nat_tests)

-- a text behind a sign that begins with neither a coefficient nor an `x`
pub no_coefficient : (u : ℕ) (f : Option ℕ) (text : List ℕ) → begins_with text 120 ≡ false → (begins_with_digit text ≡ false) → scan u f Signed text ≡ Err (length text)
no_coefficient u f [] x d = refl
no_coefficient u f (c ∷ cs) x d = scan_wrong u f Signed c cs (by (c == 49) (nat_le 50 c && nat_le c 57) (none c d).0 (none c d).1)
  where
    none : (c : ℕ) → is_digit c ≡ false → ((c == 49) ≡ false) × ((nat_le 50 c && nat_le c 57) ≡ false)
    none c d = (grind (arith, nat_tests), grind (arith, nat_tests))

    by : (v w : Bool) → v ≡ false → w ≡ false → (if v then One else (if w then Coefficient else (if c == 120 then Letter else Wrong))) ≡ Wrong
    by false false p q = ap (λ b. if b then Letter else Wrong) x
    by true w p q = absurd (cc)
    by false true p q = absurd (cc)

pub zero_coefficient : (u : ℕ) (f : Option ℕ) (text : List ℕ) → begins_with text 48 ≡ true → scan u f Signed text ≡ Err (length text)
zero_coefficient u f [] h = absurd (cc)
zero_coefficient u f (c ∷ cs) h = scan_wrong u f Signed c cs (ap begin_term (is_equal c 48 h))

-- ---- the sign of a term

further_sign_scan : (u : ℕ) (f : Option ℕ) (text : List ℕ) → 0 < length text → ends_term text ≡ true → scan_end u f text ≡ scan u f Signed (after_sign text)
further_sign_scan u f [] n h = absurd (omega arith)
further_sign_scan u f (c ∷ cs) n h = end_sign u f c cs (a_sign c h) ∙ ap (λ b. scan u f Signed (if b then cs else c ∷ cs)) (sym h)

first_sign_scan : (u : ℕ) (f : Option ℕ) (text : List ℕ) → 0 < length text → begins_with text 43 ≡ false → begins_with text 48 ≡ false → scan u f Start text ≡ scan u f Signed (after_sign text)
first_sign_scan u f [] n p z = absurd (omega arith)
first_sign_scan u f (c ∷ cs) n p z = by (c == 45) refl
  where
    sign : (b : Bool) → (c == 45) ≡ b → after_sign (c ∷ cs) ≡ (if b then cs else c ∷ cs)
    sign b e = ap (λ v. if v || (c == 45) then cs else c ∷ cs) p ∙ ap (λ v. if v then cs else c ∷ cs) e

    by : (b : Bool) → (c == 45) ≡ b → scan u f Start (c ∷ cs) ≡ scan u f Signed (after_sign (c ∷ cs))
    by true e = byte_scan u f Start Signed 45 (c ∷ cs) e refl refl refl ∙ ap (scan u f Signed) (sym (sign true e))
    by false e =
        ap (λ s. if is_wrong s then Err (suc (length cs)) else scan u (noted u Start (c ∷ cs) f) s cs) (ap (λ b. if b then Signed else (if c == 48 then Zero else begin_term c)) e ∙ ap (λ b. if b then Zero else begin_term c) z)
        ∙ ap (scan u f Signed) (sym (sign false e))

pub sign_scan : (u : ℕ) (f : Option ℕ) (ts : List Term) (text : List ℕ) → 0 < length text → IsAtSign ts text → scan_terms u f ts text ≡ scan u f Signed (after_sign text)
sign_scan u f [] text n h = first_sign_scan u f text n h.1 h.2
sign_scan u f (t ∷ ts) text n h = further_sign_scan u f text n h

pub terms_scan : (u : ℕ) (f : Option ℕ) (ts : List Term) (t : Term) (rest : List ℕ) → scan_terms u f (ts ++ t ∷ []) rest ≡ scan_end u f rest
terms_scan u f [] t rest = refl
terms_scan u f (s ∷ ss) t rest = refl

-- a `0` that is not the whole text
pub zero_more : (u : ℕ) (f : Option ℕ) (text : List ℕ) → begins_with text 48 ≡ true → length text ≢ 1 → scan u f Start text ≡ Err (length text - 1)
zero_more u f [] b n = absurd (cc)
zero_more u f (c ∷ []) b n = absurd (n refl)
zero_more u f (c ∷ d ∷ ds) b n =
    noted_step u f Start Zero c (d ∷ ds) (ap (next Start) (is_equal c 48 b)) refl
    ∙ scan_wrong u (noted u Start (c ∷ d ∷ ds) f) Zero d ds refl
    ∙ ap Err (let e : suc (length ds) ≡ suc (suc (length ds)) - 1 = omega arith in e)
