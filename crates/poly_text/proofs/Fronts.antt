-- What stands at the front of a text whose form and numbers are right.
use Rattle.std.specs.Prelude.{◌≡◌, ◌≢◌, ℕ, suc, ◌+◌, ◌-◌, ◌*◌, ◌/◌, ◌%◌, ◌^◌, ◌<◌, ◌≤◌, Bool, true, false, ◌&&◌, ◌||◌, not, ◌==◌, nat_le, if◌then◌else◌, Option, None, Some, option_map, List, [], ◌∷◌, ◌++◌, length, drop, decimal, codes, refl}
use Rattle.std.proofs.Common.{sym, ◌∙◌, ap, subst, arith, append_assoc, append-nil}
use Rattle.std.proofs.lemmas.Bool.Decides.{nat_tests}
use Rattle.std.proofs.lemmas.Fmt.{decimal_digit, decimal_step_wide}
use Rattle.std.specs.List.{AllByRecursion}
use Rattle.sparse_poly.specs.declared.Term.{Term}
use Rattle.sparse_poly.specs.Contributions.{max_coeff}
use Rattle.poly_text.specs.Text.{factor_text, more_factors, body_text, term_text, more_terms, poly_text}
use Rattle.poly_text.specs.Form.{is_digit, begin_term, after_term, after_factor, after_variable, next, ends}
use Rattle.poly_text.specs.Numbers.{number_from, after_digits, starts_number, in_range, is_out, first_out, IsFactorInRange, IsTermInRange, AreInRange}
use Rattle.poly_text.specs.Order.{front}
use Rattle.poly_text.specs.Fronts.{IsLive, GoesOn, begins_with, after_sign, IsAfterTerm, IsFactorFront, IsFactorsFront, IsBodyFront, IsTermFront}
use Rattle.poly_text.specs.State.{State, Start, Signed, Zero, One, Coefficient, Times, Letter, VariableZero, Variable, Caret, FactorEnd, Exponent, Wrong}
use Rattle.poly_text.proofs.Runs.{run-wrong}
use Rattle.poly_text.proofs.NumberRuns.{number_from-le, rest_step}
use Rattle.poly_text.proofs.Digits.{below_of, Small, Lacks}
use Rattle.poly_text.proofs.Alone.{is_equal, body_written, same_tail}

-- ---- a byte and what follows it

-- no number out of range starts at a byte, and the text goes on behind it
pub record Step (u : ℕ) (s : State) (c : ℕ) (cs : List ℕ) : Type 0 where
  pub live : IsLive u (next s c) cs
  pub here : is_out u s (c ∷ cs) ≡ false

pub step : (u : ℕ) (s : State) (c : ℕ) (cs : List ℕ) → IsLive u s (c ∷ cs) → Step u s c cs
step u s c cs h = by (is_out u s (c ∷ cs)) refl
  where
    none : (o : Option ℕ) → option_map (λ k. k + 1) o ≡ None → o ≡ None
    none None e = refl
    none (Some k) e = absurd (cc)

    by : (b : Bool) → is_out u s (c ∷ cs) ≡ b → Step u s c cs
    by true e = let k : ◌≡◌ {A = Option ℕ} (Some 0) None = sym (ap (λ b. if b then Some 0 else option_map (λ k. k + 1) (first_out u (next s c) cs)) e) ∙ h.numbers in absurd (cc)
    by false e = record {
      live = record { form = h.form; numbers = none (first_out u (next s c) cs) (sym (ap (λ b. if b then Some 0 else option_map (λ k. k + 1) (first_out u (next s c) cs)) e) ∙ h.numbers) };
      here = e;
    }

pub step_back : (u : ℕ) (s : State) (c : ℕ) (cs : List ℕ) → IsLive u (next s c) cs → is_out u s (c ∷ cs) ≡ false → IsLive u s (c ∷ cs)
step_back u s c cs h e = record {
  form = h.form;
  numbers = ap (λ b. if b then Some 0 else option_map (λ k. k + 1) (first_out u (next s c) cs)) e ∙ ap (option_map (λ k. k + 1)) h.numbers;
}

pub not_wrong : (u : ℕ) (cs : List ℕ) → IsLive u Wrong cs → ⊥
not_wrong u cs h = let e : false ≡ true = sym (ap ends (run-wrong cs)) ∙ h.form in absurd (cc)

-- a state that is `Wrong` unless a test holds
live_test : (u : ℕ) (b : Bool) (s : State) (cs : List ℕ) → IsLive u (if b then s else Wrong) cs → (b ≡ true) × IsLive u s cs
live_test u true s cs h = (refl, h)
live_test u false s cs h = absurd (not_wrong u cs h)

-- ---- digits

-- a state that digits keep
pub record Keeps (s : State) : Type 0 where
  pub next_digit : (c : ℕ) → is_digit c ≡ true → next s c ≡ s
  pub starts : starts_number s ≡ false

pub keeps_coefficient : Keeps Coefficient
keeps_coefficient = record { next_digit = λ c h. ap (λ b. if b then Coefficient else after_factor c) h; starts = refl }

pub keeps_variable : Keeps Variable
keeps_variable = record { next_digit = λ c h. ap (λ b. if b then Variable else after_variable c) h; starts = refl }

pub keeps_exponent : Keeps Exponent
keeps_exponent = record { next_digit = λ c h. ap (λ b. if b then Exponent else after_factor c) h; starts = refl }

pub not_out : (u : ℕ) (s : State) (c : ℕ) (cs : List ℕ) → starts_number s ≡ false → is_out u s (c ∷ cs) ≡ false
not_out u s c cs h = ap (λ b. b && is_digit c && not (in_range u s (number_from 0 (c ∷ cs)))) h

pub past_digits : (u : ℕ) (s : State) (cs : List ℕ) → Keeps s → IsLive u s cs → IsLive u s (after_digits cs)
past_digits u s [] k h = h
past_digits u s (c ∷ cs) k h = by (is_digit c) refl (step u s c cs h).live (λ l. past_digits u s cs k l)
  where
    by : (b : Bool) → is_digit c ≡ b → IsLive u (next s c) cs → (IsLive u s cs → IsLive u s (after_digits cs)) → IsLive u s (if b then after_digits cs else c ∷ cs)
    by true e l further = further (subst (λ t. IsLive u t cs) (k.next_digit c e) l)
    by false e l further = h

pub before_digits : (u : ℕ) (s : State) (cs : List ℕ) → Keeps s → IsLive u s (after_digits cs) → IsLive u s cs
before_digits u s [] k h = h
before_digits u s (c ∷ cs) k h = by (is_digit c) refl h (λ l. before_digits u s cs k l)
  where
    by : (b : Bool) → is_digit c ≡ b → IsLive u s (if b then after_digits cs else c ∷ cs) → (IsLive u s (after_digits cs) → IsLive u s cs) → IsLive u s (c ∷ cs)
    by true e l further = step_back u s c cs (subst (λ t. IsLive u t cs) (sym (k.next_digit c e)) (further l)) (not_out u s c cs k.starts)
    by false e l further = l

pub after_digits-lacks : (cs : List ℕ) → Lacks is_digit (after_digits cs)
after_digits-lacks [] = tt
after_digits-lacks (c ∷ cs) = by (is_digit c) refl (after_digits-lacks cs)
  where
    by : (b : Bool) → is_digit c ≡ b → Lacks is_digit (after_digits cs) → Lacks is_digit (if b then after_digits cs else c ∷ cs)
    by true e l = l
    by false e l = e

pub after_digits-le : (cs : List ℕ) → length (after_digits cs) ≤ length cs
after_digits-le [] = omega arith
after_digits-le (c ∷ cs) = by (is_digit c) (after_digits-le cs)
  where
    by : (b : Bool) → length (after_digits cs) ≤ length cs → length (if b then after_digits cs else c ∷ cs) ≤ suc (length cs)
    by true l = omega arith
    by false l = omega arith

-- a digit more
digit_more : (n c : ℕ) → 0 < n → Small (10 * n + (c - 48)) → is_digit c ≡ true → decimal n ++ c ∷ [] ≡ decimal (10 * n + (c - 48))
digit_more n c some small h =
    let range : (48 ≤ c) × (c ≤ 57) = grind (arith, nat_tests) in
    let low = range.0 in let high = range.1 in
    let m = 10 * n + (c - 48) in
    let a : m / 10 ≡ n = omega arith in
    let b : 48 + m % 10 ≡ c = omega arith in
    let e = decimal_step_wide m (omega arith) small in
    sym (e ∙ ap (λ k. decimal k ++ ((48 + m % 10) ∷ [])) a ∙ ap (λ k. decimal n ++ (k ∷ [])) b)

-- the digits of a number that is not 0 go on
digits_text : (n : ℕ) (cs : List ℕ) → 0 < n → Small (number_from n cs) → decimal n ++ cs ≡ decimal (number_from n cs) ++ after_digits cs
digits_text n [] some small = refl
digits_text n (c ∷ cs) some small = by (is_digit c) refl small (λ p q. digits_text (10 * n + (c - 48)) cs p q)
  where
    m : ℕ
    m = 10 * n + (c - 48)

    by : (b : Bool) → is_digit c ≡ b → Small (if b then number_from (10 * n + (c - 48)) cs else n) → (0 < 10 * n + (c - 48) → Small (number_from (10 * n + (c - 48)) cs) → decimal (10 * n + (c - 48)) ++ cs ≡ decimal (number_from (10 * n + (c - 48)) cs) ++ after_digits cs) → decimal n ++ (c ∷ cs) ≡ decimal (if b then number_from (10 * n + (c - 48)) cs else n) ++ (if b then after_digits cs else c ∷ cs)
    by true e l further =
        let le = number_from-le (10 * n + (c - 48)) cs in
        sym (append_assoc (decimal n) (c ∷ []) cs) ∙ ap (λ l. l ++ cs) (digit_more n c some (omega arith) e) ∙ further (omega arith) l
    by false e l further = refl

-- the digits of a number without leading zeros
pub number_text : (c : ℕ) (cs : List ℕ) → is_digit c ≡ true → c ≢ 48 → Small (number_from 0 (c ∷ cs)) → (0 < number_from 0 (c ∷ cs)) × (c ∷ cs ≡ decimal (number_from 0 (c ∷ cs)) ++ after_digits (c ∷ cs))
number_text c cs d n small =
    let range : (48 ≤ c) × (c ≤ 57) = grind (arith, nat_tests) in
    let low = range.0 in let high = range.1 in
    let first : 10 * 0 + (c - 48) ≡ c - 48 = omega arith in
    let e : number_from 0 (c ∷ cs) ≡ number_from (c - 48) cs = ap (λ b. if b then number_from (10 * 0 + (c - 48)) cs else 0) d ∙ ap (λ k. number_from k cs) first in
    let f : after_digits (c ∷ cs) ≡ after_digits cs = ap (λ b. if b then after_digits cs else c ∷ cs) d in
    let some : 0 < c - 48 = below c low n in
    let le = number_from-le (c - 48) cs in
    let g : 48 + (c - 48) ≡ c = omega arith in
    let one : c ∷ [] ≡ decimal (c - 48) = sym (decimal_digit (c - 48) (omega arith) ∙ ap (λ k. k ∷ []) g) in
    (rw e (omega arith), ap (λ l. l ++ cs) one ∙ digits_text (c - 48) cs some (rw e at small) ∙ ap (λ k. decimal k ++ after_digits cs) (sym e) ∙ ap (λ l. decimal (number_from 0 (c ∷ cs)) ++ l) (sym f))
  where
    below : (c : ℕ) → 48 ≤ c → c ≢ 48 → 0 < c - 48
    below c l n = grind arith

-- ---- states that go on alike

-- behind bytes for which the test fails, the second state goes on as the first
pub record Alike (f : ℕ → Bool) (s t : State) : Type 0 where
  pub same_next : (c : ℕ) → f c ≡ false → next s c ≡ next t c
  pub same_end : ends s ≡ ends t
  pub starts : starts_number t ≡ false

pub alike : (u : ℕ) (f : ℕ → Bool) (s t : State) (xs : List ℕ) → Alike f s t → Lacks f xs → IsLive u s xs → IsLive u t xs
alike u f s t [] a l h = record { form = sym a.same_end ∙ h.form; numbers = refl }
alike u f s t (c ∷ cs) a l h = step_back u t c cs (subst (λ r. IsLive u r cs) (a.same_next c l) (step u s c cs h).live) (not_out u t c cs a.starts)

pub variable_zero : Alike is_digit Variable VariableZero
variable_zero = record { same_next = λ c e. ap (λ b. if b then Variable else after_variable c) e; same_end = refl; starts = refl }

pub exponent_end : Alike is_digit Exponent FactorEnd
exponent_end = record { same_next = λ c e. ap (λ b. if b then Exponent else after_factor c) e; same_end = refl; starts = refl }

pub coefficient_end : Alike is_digit Coefficient FactorEnd
coefficient_end = record { same_next = λ c e. ap (λ b. if b then Coefficient else after_factor c) e; same_end = refl; starts = refl }

zero_end : Alike (λ c. c == 94) VariableZero FactorEnd
zero_end = record { same_next = λ c e. ap (λ b. if b then Caret else after_factor c) e; same_end = refl; starts = refl }

-- ---- numbers

other_byte : (d k : ℕ) → is_digit d ≡ true → is_digit k ≡ false → (d == k) ≡ false
other_byte d k h n = by (d == k) refl
  where
    by : (b : Bool) → (d == k) ≡ b → b ≡ false
    by true e = let q : d ≡ k = is_equal d k e in let r : true ≡ false = sym h ∙ ap is_digit q ∙ n in absurd (cc)
    by false e = refl

after_term-digit : (d : ℕ) → is_digit d ≡ true → after_term d ≡ Wrong
after_term-digit d h = ap (λ b. if b then Signed else (if d == 45 then Signed else Wrong)) (other_byte d 43 h refl) ∙ ap (λ b. if b then Signed else Wrong) (other_byte d 45 h refl)

after_factor-digit : (d : ℕ) → is_digit d ≡ true → after_factor d ≡ Wrong
after_factor-digit d h = ap (λ b. if b then Times else after_term d) (other_byte d 42 h refl) ∙ after_term-digit d h

after_variable-digit : (d : ℕ) → is_digit d ≡ true → after_variable d ≡ Wrong
after_variable-digit d h = ap (λ b. if b then Caret else after_factor d) (other_byte d 94 h refl) ∙ after_factor-digit d h

-- a state behind which no digit stands
lacks_digit : (u : ℕ) (s : State) (cs : List ℕ) → ((d : ℕ) → is_digit d ≡ true → next s d ≡ Wrong) → IsLive u s cs → Lacks is_digit cs
lacks_digit u s [] w h = tt
lacks_digit u s (d ∷ ds) w h = by (is_digit d) refl
  where
    by : (b : Bool) → is_digit d ≡ b → b ≡ false
    by true e = absurd (not_wrong u ds (subst (λ r. IsLive u r ds) (w d e) (step u s d ds h).live))
    by false e = refl

in_range_of : (a b r : Bool) → a ≡ true → b ≡ true → (a && b && not r) ≡ false → r ≡ true
in_range_of true true true p q h = refl
in_range_of true true false p q h = absurd (cc)
in_range_of true false r p q h = absurd (cc)
in_range_of false b r p q h = absurd (cc)

number_in_range : (u : ℕ) (s : State) (c : ℕ) (cs : List ℕ) → starts_number s ≡ true → is_digit c ≡ true → is_out u s (c ∷ cs) ≡ false → in_range u s (number_from 0 (c ∷ cs)) ≡ true
number_in_range u s c cs a d h = in_range_of (starts_number s) (is_digit c) (in_range u s (number_from 0 (c ∷ cs))) a d h

-- a text is that of its number and what follows
abbrev pub IsNumbered : List ℕ → Type 0
IsNumbered text = text ≡ decimal (number_from 0 text) ++ after_digits text

-- behind a 0 that no digit follows
zero_number : (cs : List ℕ) → Lacks is_digit cs → (number_from 0 (48 ∷ cs) ≡ 0) × (after_digits (48 ∷ cs) ≡ cs)
zero_number [] h = (refl, refl)
zero_number (d ∷ ds) h = (ap (λ b. if b then number_from (10 * 0 + (d - 48)) ds else 0) h, ap (λ b. if b then after_digits ds else d ∷ ds) h)

zero_numbered : (cs : List ℕ) → Lacks is_digit cs → IsNumbered (48 ∷ cs)
zero_numbered cs h =
    let z = zero_number cs h in
    ap (λ l. l ++ cs) (sym (decimal_digit 0 (omega arith))) ∙ ap (λ n. decimal n ++ cs) (sym z.0) ∙ ap (λ l. decimal (number_from 0 (48 ∷ cs)) ++ l) (sym z.1)

apart_of : (c k : ℕ) → (c == k) ≡ false → c ≢ k
apart_of c k h = grind (arith, nat_tests)

pub record VariableRead (u : ℕ) (text : List ℕ) : Type 0 where
  pub small : number_from 0 text < u
  pub numbered : IsNumbered text
  pub live : IsLive u VariableZero (after_digits text)

pub variable_read : (u : ℕ) (text : List ℕ) → u < 2 ^ 32 → IsLive u Letter text → VariableRead u text
variable_read u [] v h = let e : false ≡ true = h.form in absurd (cc)
variable_read u (c ∷ cs) v h = by (c == 48) refl (step u Letter c cs h).live
  where
    by : (b : Bool) → (c == 48) ≡ b → IsLive u (if b then VariableZero else (if is_digit c then Variable else Wrong)) cs → VariableRead u (c ∷ cs)
    by true e l =
        let q : c ≡ 48 = is_equal c 48 e in
        let k = lacks_digit u VariableZero cs after_variable-digit l in
        let z = zero_number cs k in
        record {
          small = below_of (number_from 0 (c ∷ cs)) u (number_in_range u Letter c cs refl (rw q refl) (step u Letter c cs h).here);
          numbered = subst (λ d. IsNumbered (d ∷ cs)) (sym q) (zero_numbered cs k);
          live = subst (λ d. IsLive u VariableZero (after_digits (d ∷ cs))) (sym q) (subst (IsLive u VariableZero) (sym z.1) l);
        }
    by false e l =
        let t = live_test u (is_digit c) Variable cs l in
        let small : number_from 0 (c ∷ cs) < u = below_of (number_from 0 (c ∷ cs)) u (number_in_range u Letter c cs refl t.0 (step u Letter c cs h).here) in
        let n = number_text c cs t.0 (apart_of c 48 e) (omega arith) in
        record {
          small = small;
          numbered = n.1;
          live = subst (IsLive u VariableZero) (sym (rest_step (c ∷ cs) t.0)) (alike u is_digit Variable VariableZero (after_digits cs) variable_zero (after_digits-lacks cs) (past_digits u Variable cs keeps_variable t.1));
        }

pub record ExponentRead (u : ℕ) (text : List ℕ) : Type 0 where
  pub low : 2 ≤ number_from 0 text
  pub high : number_from 0 text ≤ 65535
  pub numbered : IsNumbered text
  pub live : IsLive u FactorEnd (after_digits text)

both_of : (n : ℕ) → (nat_le 2 n && nat_le n 65535) ≡ true → (2 ≤ n) × (n ≤ 65535)
both_of n h = grind (arith, nat_tests)

pub exponent_read : (u : ℕ) (text : List ℕ) → IsLive u Caret text → ExponentRead u text
exponent_read u [] h = let e : false ≡ true = h.form in absurd (cc)
exponent_read u (c ∷ cs) h = by (c == 48) refl (step u Caret c cs h).live
  where
    by : (b : Bool) → (c == 48) ≡ b → IsLive u (if b then FactorEnd else (if is_digit c then Exponent else Wrong)) cs → ExponentRead u (c ∷ cs)
    by true e l =
        let q : c ≡ 48 = is_equal c 48 e in
        let z = zero_number cs (lacks_digit u FactorEnd cs after_factor-digit l) in
        let k = both_of (number_from 0 (c ∷ cs)) (number_in_range u Caret c cs refl (rw q refl) (step u Caret c cs h).here) in
        let low = k.0 in
        let n : number_from 0 (c ∷ cs) ≡ 0 = ap (λ d. number_from 0 (d ∷ cs)) q ∙ z.0 in
        absurd (omega arith)
    by false e l =
        let t = live_test u (is_digit c) Exponent cs l in
        let k = both_of (number_from 0 (c ∷ cs)) (number_in_range u Caret c cs refl t.0 (step u Caret c cs h).here) in
        let high = k.1 in
        let n = number_text c cs t.0 (apart_of c 48 e) (omega arith) in
        record {
          low = k.0;
          high = k.1;
          numbered = n.1;
          live = subst (IsLive u FactorEnd) (sym (rest_step (c ∷ cs) t.0)) (alike u is_digit Exponent FactorEnd (after_digits cs) exponent_end (after_digits-lacks cs) (past_digits u Exponent cs keeps_exponent t.1));
        }

-- ---- bytes at the front

pub begun : (k : ℕ) (xs : List ℕ) → begins_with xs k ≡ true → xs ≡ k ∷ drop 1 xs
begun k [] h = absurd (cc)
begun k (c ∷ cs) h = ap (λ d. d ∷ cs) (is_equal c k h)

not_begun : (k : ℕ) (xs : List ℕ) → begins_with xs k ≡ false → Lacks (λ c. c == k) xs
not_begun k [] h = tt
not_begun k (c ∷ cs) h = h

pub live_behind : (u : ℕ) (s : State) (k : ℕ) (xs : List ℕ) → begins_with xs k ≡ true → IsLive u s xs → IsLive u (next s k) (drop 1 xs)
live_behind u s k xs h l = (step u s k (drop 1 xs) (subst (IsLive u s) (begun k xs h) l)).live

pub length_behind : (k : ℕ) (xs : List ℕ) → begins_with xs k ≡ true → length xs ≡ suc (length (drop 1 xs))
length_behind k xs h = ap length (begun k xs h)

-- ---- a factor

power_one : (v : ℕ) → factor_text (v, 1) ≡ codes "x" ++ decimal v
power_one v = append-nil (codes "x" ++ decimal v)

power_other : (v e : ℕ) → 2 ≤ e → factor_text (v, e) ≡ (codes "x" ++ decimal v) ++ (codes "^" ++ decimal e)
power_other v e h = ap (λ b. (codes "x" ++ decimal v) ++ (if b then [] else codes "^" ++ decimal e)) (other e h)
  where
    other : (e : ℕ) → 2 ≤ e → (e == 1) ≡ false
    other e h = grind (arith, nat_tests)

pub bare_factor : (u : ℕ) (text : List ℕ) (v : ℕ) (rest : List ℕ) → u < 2 ^ 32 → IsLive u Letter text → v ≡ number_from 0 text → rest ≡ after_digits text → begins_with rest 94 ≡ false → IsFactorFront u text (v, 1) rest
bare_factor u text v rest s h e f b =
    let r = variable_read u text s h in
    let small = r.small in
    let le = after_digits-le text in
    record {
      spelled = ap (λ l. codes "x" ++ l) (r.numbered ∙ ap (λ n. decimal n ++ after_digits text) (sym e) ∙ ap (λ l. decimal v ++ l) (sym f)) ∙ ap (λ l. l ++ rest) (sym (power_one v));
      in_range = (rw e small, omega arith, omega arith);
      live = alike u (λ c. c == 94) VariableZero FactorEnd rest zero_end (not_begun 94 rest b) (subst (IsLive u VariableZero) (sym f) r.live);
      shorter = rw f le;
    }

pub caret_live : (u : ℕ) (text rest : List ℕ) → u < 2 ^ 32 → IsLive u Letter text → rest ≡ after_digits text → begins_with rest 94 ≡ true → IsLive u Caret (drop 1 rest)
caret_live u text rest s h f b = live_behind u VariableZero 94 rest b (subst (IsLive u VariableZero) (sym f) (variable_read u text s h).live)

pub power_factor : (u : ℕ) (text : List ℕ) (v e : ℕ) (rest behind : List ℕ) → u < 2 ^ 32 → IsLive u Letter text → v ≡ number_from 0 text → rest ≡ after_digits text → begins_with rest 94 ≡ true → e ≡ number_from 0 (drop 1 rest) → behind ≡ after_digits (drop 1 rest) → IsFactorFront u text (v, e) behind
power_factor u text v e rest behind s h p f b q g =
    let r = variable_read u text s h in
    let w = exponent_read u (drop 1 rest) (caret_live u text rest s h f b) in
    let small = r.small in let low = w.low in let high = w.high in
    let le = after_digits-le text in
    let less = after_digits-le (drop 1 rest) in
    let one = length_behind 94 rest b in
    let more : 2 ≤ e = rw q low in
    let exponent : drop 1 rest ≡ decimal e ++ behind = w.numbered ∙ ap (λ n. decimal n ++ after_digits (drop 1 rest)) (sym q) ∙ ap (λ l. decimal e ++ l) (sym g) in
    let power : rest ≡ (codes "^" ++ decimal e) ++ behind = begun 94 rest b ∙ ap (λ l. 94 ∷ l) exponent in
    record {
      spelled = ap (λ l. codes "x" ++ l) (r.numbered ∙ ap (λ n. decimal n ++ after_digits text) (sym p) ∙ ap (λ l. decimal v ++ l) (sym f ∙ power)) ∙ sym (append_assoc (codes "x" ++ decimal v) (codes "^" ++ decimal e) behind) ∙ ap (λ l. l ++ behind) (sym (power_other v e more));
      in_range = (rw p small, omega arith, rw q high);
      live = subst (IsLive u FactorEnd) (sym g) w.live;
      shorter = (let x : length rest ≤ length text = rw f le in let y : length behind ≤ length (drop 1 rest) = rw g less in omega arith);
    }

-- ---- the factors of a term

pub record StarRead (u : ℕ) (rest : List ℕ) : Type 0 where
  pub long : 2 ≤ length rest
  pub spelled : rest ≡ 42 ∷ 120 ∷ drop 2 rest
  pub live : IsLive u Letter (drop 2 rest)

pub star_read : (u : ℕ) (rest : List ℕ) → IsLive u FactorEnd rest → begins_with rest 42 ≡ true → StarRead u rest
star_read u [] h b = absurd (cc)
star_read u (c ∷ []) h b =
    let q : c ≡ 42 = is_equal c 42 b in
    let l : IsLive u Times [] = subst (λ d. IsLive u (after_factor d) []) q (step u FactorEnd c [] h).live in
    let e : false ≡ true = l.form in absurd (cc)
star_read u (c ∷ d ∷ cs) h b =
    let q : c ≡ 42 = is_equal c 42 b in
    let l : IsLive u Times (d ∷ cs) = subst (λ k. IsLive u (after_factor k) (d ∷ cs)) q (step u FactorEnd c (d ∷ cs) h).live in
    let t = live_test u (d == 120) Letter cs (step u Times d cs l).live in
    record {
      long = omega arith;
      spelled = ap (λ k. k ∷ d ∷ cs) q ∙ ap (λ k. 42 ∷ k ∷ cs) (is_equal d 120 t.0);
      live = t.1;
    }

all_more : (u : ℕ) (ps : List (ℕ × ℕ)) (p : ℕ × ℕ) → AllByRecursion (IsFactorInRange u) ps → IsFactorInRange u p → AllByRecursion (IsFactorInRange u) (ps ++ p ∷ [])
all_more u [] p h k = (k, tt)
all_more u (q ∷ qs) p h k = (h.0, all_more u qs p h.1 k)

pub more_more : (ps : List (ℕ × ℕ)) (p : ℕ × ℕ) (xs : List ℕ) → more_factors (ps ++ p ∷ []) ++ xs ≡ more_factors ps ++ (42 ∷ (factor_text p ++ xs))
more_more [] p xs = ap (λ l. 42 ∷ (l ++ xs)) (append-nil (factor_text p))
more_more (q ∷ qs) p xs =
    append_assoc (codes "*" ++ factor_text q) (more_factors (qs ++ p ∷ [])) xs
    ∙ ap (λ l. (codes "*" ++ factor_text q) ++ l) (more_more qs p xs)
    ∙ sym (append_assoc (codes "*" ++ factor_text q) (more_factors qs) (42 ∷ (factor_text p ++ xs)))

-- one factor more
pub record FactorsMore (u : ℕ) (start : List ℕ) (text : List ℕ) (new : List (ℕ × ℕ)) (further : List ℕ) : Type 0 where
  pub spelled : start ≡ more_factors new ++ further
  pub in_range : AllByRecursion (IsFactorInRange u) new
  pub live : IsLive u FactorEnd further
  pub shorter : length further ≤ length text

pub factors_more : (u : ℕ) (start text rest further : List ℕ) (powers new : List (ℕ × ℕ)) (p : ℕ × ℕ) → start ≡ more_factors powers ++ rest → AllByRecursion (IsFactorInRange u) powers → IsLive u FactorEnd rest → length rest ≤ length text → begins_with rest 42 ≡ true → IsFactorFront u (drop 2 rest) p further → new ≡ powers ++ p ∷ [] → FactorsMore u start text new further
factors_more u start text rest further powers new p e r l s b f n =
    let w = star_read u rest l b in
    let k : rest ≡ 42 ∷ (factor_text p ++ further) = w.spelled ∙ ap (λ t. 42 ∷ t) f.spelled in
    let a = ap length w.spelled in
    let z = f.shorter in
    record {
      spelled = e ∙ ap (λ t. more_factors powers ++ t) k ∙ sym (more_more powers p further) ∙ ap (λ t. more_factors t ++ further) (sym n);
      in_range = subst (AllByRecursion (IsFactorInRange u)) (sym n) (all_more u powers p r f.in_range);
      live = f.live;
      shorter = omega (arith, a);
    }

-- without two bytes
pub drop_two : (xs : List ℕ) → drop 1 (drop 1 xs) ≡ drop 2 xs
drop_two [] = refl
drop_two (c ∷ []) = refl
drop_two (c ∷ d ∷ cs) = refl

pub factor_shorter : (u : ℕ) (rest further : List ℕ) (p : ℕ × ℕ) → IsLive u FactorEnd rest → begins_with rest 42 ≡ true → IsFactorFront u (drop 2 rest) p further → length further < length rest
factor_shorter u rest further p l b f = let a = ap length (star_read u rest l b).spelled in let z = f.shorter in omega (arith, a)

sign_of : (u c : ℕ) (cs : List ℕ) → IsLive u (after_term c) cs → IsAfterTerm u (c ∷ cs)
sign_of u c cs h = by (c == 43) (c == 45) refl refl h
  where
    by : (v w : Bool) → (c == 43) ≡ v → (c == 45) ≡ w → IsLive u (if v then Signed else (if w then Signed else Wrong)) cs → IsAfterTerm u (c ∷ cs)
    by true w p q l = (ap (λ b. if b then Signed else (if c == 45 then Signed else Wrong)) p, l)
    by false true p q l = (ap (λ b. if b then Signed else (if c == 45 then Signed else Wrong)) p ∙ ap (λ b. if b then Signed else Wrong) q, l)
    by false false p q l = absurd (not_wrong u cs l)

pub factors_end : (u : ℕ) (rest : List ℕ) → IsLive u FactorEnd rest → begins_with rest 42 ≡ false → IsAfterTerm u rest
factors_end u [] h b = tt
factors_end u (c ∷ cs) h b = sign_of u c cs (subst (λ s. IsLive u s cs) (ap (λ v. if v then Times else after_term c) b) (step u FactorEnd c cs h).live)

no_star : (u : ℕ) (rest : List ℕ) → IsAfterTerm u rest → begins_with rest 42 ≡ true → ⊥
no_star u [] h b = absurd (cc)
no_star u (c ∷ cs) h b = let e : Wrong ≡ Signed = sym (ap after_term (is_equal c 42 b)) ∙ h.0 in absurd (cc)

-- behind a term there may be no factor
pub after_end : (u : ℕ) (rest : List ℕ) → IsAfterTerm u rest → IsLive u FactorEnd rest
after_end u [] h = record { form = refl; numbers = refl }
after_end u (c ∷ cs) h = by (c == 42) refl
  where
    by : (v : Bool) → (c == 42) ≡ v → IsLive u FactorEnd (c ∷ cs)
    by true e = absurd (no_star u (c ∷ cs) h e)
    by false e = step_back u FactorEnd c cs (subst (λ s. IsLive u s cs) (sym (ap (λ v. if v then Times else after_term c) e ∙ h.0)) h.1) refl

-- ---- a term behind its sign

-- factors behind a text that begins with a `*`
some_factors : (u : ℕ) (text rest : List ℕ) (ps : List (ℕ × ℕ)) → IsAfterTerm u rest → 42 ∷ text ≡ more_factors ps ++ rest → text ≡ body_text 1 ps ++ rest
some_factors u text rest [] h e = absurd (no_star u rest h (ap (λ l. begins_with l 42) (sym e)))
some_factors u text rest (p ∷ ps) h e = same_tail 42 42 text _ e

pub bare_body : (u : ℕ) (text behind rest : List ℕ) (p : ℕ × ℕ) (ps : List (ℕ × ℕ)) → begins_with text 120 ≡ true → IsFactorFront u (drop 1 text) p behind → IsFactorsFront u behind (p ∷ []) ps rest → IsBodyFront u text 1 ps rest
bare_body u text behind rest p ps b f g =
    let a = length_behind 120 text b in
    let x = f.shorter in let y = g.shorter in
    let k : 42 ∷ text ≡ more_factors (p ∷ []) ++ behind = ap (λ l. 42 ∷ l) (begun 120 text b ∙ f.spelled) ∙ sym (more_more [] p behind) in
    record {
      spelled = some_factors u text rest ps g.follows (k ∙ g.spelled);
      some = omega arith;
      small = omega arith;
      in_range = g.in_range;
      follows = g.follows;
      shorter = omega (arith, a);
    }

pub record CoefficientRead (u : ℕ) (text : List ℕ) : Type 0 where
  pub some : 0 < number_from 0 text
  pub small : number_from 0 text ≤ max_coeff
  pub numbered : IsNumbered text
  pub live : IsLive u FactorEnd (after_digits text)
  pub one : number_from 0 text ≡ 1 → IsAfterTerm u (after_digits text)
  pub shorter : length (after_digits text) < length text

coefficient_small : (u c : ℕ) (cs : List ℕ) → is_digit c ≡ true → IsLive u Signed (c ∷ cs) → number_from 0 (c ∷ cs) ≤ max_coeff
coefficient_small u c cs d h = small_of (number_from 0 (c ∷ cs)) (number_in_range u Signed c cs refl d (step u Signed c cs h).here)
  where
    small_of : (n : ℕ) → nat_le n max_coeff ≡ true → n ≤ max_coeff
    small_of n h = grind (arith, nat_tests)

first_digit : (c : ℕ) (cs : List ℕ) → is_digit c ≡ true → c - 48 ≤ number_from 0 (c ∷ cs)
first_digit c cs d =
    let le = number_from-le (10 * 0 + (c - 48)) cs in
    let e : number_from 0 (c ∷ cs) ≡ number_from (10 * 0 + (c - 48)) cs = ap (λ b. if b then number_from (10 * 0 + (c - 48)) cs else 0) d in
    omega (arith, e)

-- the digits of a coefficient that is not 1
long_coefficient : (u c : ℕ) (cs : List ℕ) → is_digit c ≡ true → c ≢ 48 → IsLive u Signed (c ∷ cs) → IsLive u Coefficient cs → number_from 0 (c ∷ cs) ≢ 1 → CoefficientRead u (c ∷ cs)
long_coefficient u c cs d n h l o =
    let small : number_from 0 (c ∷ cs) ≤ max_coeff = coefficient_small u c cs d h in
    let t = number_text c cs d n (omega arith) in
    let le = after_digits-le cs in
    let e = sym (rest_step (c ∷ cs) d) in
    record {
      some = t.0;
      small = small;
      numbered = t.1;
      live = subst (IsLive u FactorEnd) e (alike u is_digit Coefficient FactorEnd (after_digits cs) coefficient_end (after_digits-lacks cs) (past_digits u Coefficient cs keeps_coefficient l));
      one = λ q. absurd (o q);
      shorter = rw (← e) (omega arith);
    }

-- a coefficient that begins with a 1
one_coefficient : (u : ℕ) (cs : List ℕ) → IsLive u Signed (49 ∷ cs) → IsLive u One cs → CoefficientRead u (49 ∷ cs)
one_coefficient u [] h l = record { some = omega arith; small = omega arith; numbered = ap (λ l. l ++ []) (sym (decimal_digit 1 (omega arith))); live = record { form = refl; numbers = refl }; one = λ q. tt; shorter = omega arith }
one_coefficient u (d ∷ ds) h l = by (is_digit d) refl (step u One d ds l).live
  where
    by : (v : Bool) → is_digit d ≡ v → IsLive u (if v then Coefficient else after_term d) ds → CoefficientRead u (49 ∷ d ∷ ds)
    by true e k =
        let le = number_from-le (10 * 1 + (d - 48)) ds in
        let w : number_from 0 (49 ∷ d ∷ ds) ≡ number_from (10 * 1 + (d - 48)) ds = ap (λ b. if b then number_from (10 * 1 + (d - 48)) ds else 1) e in
        long_coefficient u 49 (d ∷ ds) refl (λ q. omega arith) h (step_back u Coefficient d ds (subst (λ s. IsLive u s ds) (sym (keeps_coefficient.next_digit d e)) k) refl) (λ q. omega (arith, w))
    by false e k =
        let n : number_from 0 (49 ∷ d ∷ ds) ≡ 1 = ap (λ b. if b then number_from (10 * 1 + (d - 48)) ds else 1) e in
        let a : after_digits (49 ∷ d ∷ ds) ≡ d ∷ ds = ap (λ b. if b then after_digits ds else d ∷ ds) e in
        let s : IsAfterTerm u (d ∷ ds) = sign_of u d ds k in
        record {
          some = rw n (omega arith);
          small = rw n (omega arith);
          numbered = ap (λ l. l ++ (d ∷ ds)) (sym (decimal_digit 1 (omega arith))) ∙ ap (λ m. decimal m ++ (d ∷ ds)) (sym n) ∙ ap (λ l. decimal (number_from 0 (49 ∷ d ∷ ds)) ++ l) (sym a);
          live = subst (IsLive u FactorEnd) (sym a) (after_end u (d ∷ ds) s);
          one = λ q. subst (IsAfterTerm u) (sym a) s;
          shorter = rw a (omega arith);
        }

pub coefficient_read : (u : ℕ) (text : List ℕ) → IsLive u Signed text → begins_with text 120 ≡ false → CoefficientRead u text
coefficient_read u [] h b = let e : false ≡ true = h.form in absurd (cc)
coefficient_read u (c ∷ cs) h b = by (c == 49) (nat_le 50 c && nat_le c 57) refl refl (step u Signed c cs h).live
  where
    digit_of : (c : ℕ) → (nat_le 50 c && nat_le c 57) ≡ true → (50 ≤ c) × (is_digit c ≡ true)
    digit_of c h = let k : (50 ≤ c) × (c ≤ 57) = grind (arith, nat_tests) in let low = k.0 in let high = k.1 in (low, grind (arith, nat_tests))

    by : (v w : Bool) → (c == 49) ≡ v → (nat_le 50 c && nat_le c 57) ≡ w → IsLive u (if v then One else (if w then Coefficient else (if c == 120 then Letter else Wrong))) cs → CoefficientRead u (c ∷ cs)
    by true w p q l =
        let e : c ≡ 49 = is_equal c 49 p in
        subst (λ d. CoefficientRead u (d ∷ cs)) (sym e) (one_coefficient u cs (subst (λ d. IsLive u Signed (d ∷ cs)) e h) l)
    by false true p q l =
        let k = digit_of c q in
        let low = k.0 in
        let le = first_digit c cs k.1 in
        long_coefficient u c cs k.1 (λ e. omega arith) h l (λ e. omega arith)
    by false false p q l = absurd (not_wrong u cs (subst (λ s. IsLive u s cs) (ap (λ v. if v then Letter else Wrong) b) l))

number_body : (u n : ℕ) (ps : List (ℕ × ℕ)) (rest behind : List ℕ) → (n ≡ 1 → IsAfterTerm u behind) → behind ≡ more_factors ps ++ rest → decimal n ++ behind ≡ body_text n ps ++ rest
number_body u n [] rest behind one e = ap (λ l. decimal n ++ l) e
number_body u n (p ∷ ps) rest behind one e = by (n == 1) refl
  where
    by : (v : Bool) → (n == 1) ≡ v → decimal n ++ behind ≡ body_text n (p ∷ ps) ++ rest
    by true q = absurd (no_star u behind (one (is_equal n 1 q)) (ap (λ l. begins_with l 42) e))
    by false q = ap (λ l. decimal n ++ l) e ∙ sym (body_written n (p ∷ ps) rest (ap not q))

pub written_body : (u n : ℕ) (text behind rest : List ℕ) (ps : List (ℕ × ℕ)) → IsLive u Signed text → begins_with text 120 ≡ false → n ≡ number_from 0 text → behind ≡ after_digits text → IsFactorsFront u behind [] ps rest → IsBodyFront u text n ps rest
written_body u n text behind rest ps h b e f g =
    let r = coefficient_read u text h b in
    let some = r.some in let small = r.small in let less = r.shorter in let y = g.shorter in
    let z = ap length f in
    let numbered : text ≡ decimal n ++ behind = r.numbered ∙ ap (λ m. decimal m ++ after_digits text) (sym e) ∙ ap (λ l. decimal n ++ l) (sym f) in
    record {
      spelled = numbered ∙ number_body u n ps rest behind (λ q. subst (IsAfterTerm u) (sym f) (r.one (sym e ∙ q))) g.spelled;
      some = rw e some;
      small = rw e small;
      in_range = g.in_range;
      follows = g.follows;
      shorter = omega (arith, z);
    }

-- ---- the terms

pub zero_text : (u : ℕ) (text : List ℕ) → IsLive u Start text → begins_with text 48 ≡ true → text ≡ codes "0"
zero_text u [] h b = absurd (cc)
zero_text u (c ∷ cs) h b = end cs (subst (λ s. IsLive u s cs) (ap (next Start) q) (step u Start c cs h).live) ∙ sym refl
  where
    q : c ≡ 48
    q = is_equal c 48 b

    end : (cs : List ℕ) → IsLive u Zero cs → c ∷ cs ≡ codes "0"
    end [] l = ap (λ d. d ∷ []) q
    end (d ∷ ds) l = absurd (not_wrong u ds (step u Zero d ds l).live)

-- the sign of a term that is not negative, behind some terms
abbrev pub plus_of : List Term → List ℕ
plus_of [] = []
plus_of (t ∷ ts) = codes "+"

pub record SignRead (u : ℕ) (ts : List Term) (negative : Bool) (rest : List ℕ) : Type 0 where
  pub live : IsLive u Signed (after_sign rest)
  pub spelled : rest ≡ (if negative then codes "-" else plus_of ts) ++ after_sign rest

first_sign : (u c : ℕ) (cs : List ℕ) → IsLive u Start (c ∷ cs) → (c == 48) ≡ false → SignRead u [] (c == 45) (c ∷ cs)
first_sign u c cs h z = by (c == 45) (c == 43) refl refl (step u Start c cs h).live
  where
    by : (v w : Bool) → (c == 45) ≡ v → (c == 43) ≡ w → IsLive u (if v then Signed else (if c == 48 then Zero else begin_term c)) cs → SignRead u [] v (c ∷ cs)
    by true w p q l = let e : c ≡ 45 = is_equal c 45 p in subst (λ d. SignRead u [] true (d ∷ cs)) (sym e) (record { live = l; spelled = refl })
    by false true p q l =
        let e : c ≡ 43 = is_equal c 43 q in
        absurd (not_wrong u cs (subst (λ d. IsLive u (if d == 48 then Zero else begin_term d) cs) e l))
    by false false p q l =
        let a : c ∷ cs ≡ after_sign (c ∷ cs) = sym (ap (λ b. if b || (c == 45) then cs else c ∷ cs) q ∙ ap (λ b. if b then cs else c ∷ cs) p) in
        let k : IsLive u (begin_term c) cs = subst (λ b. IsLive u (if b then Zero else begin_term c) cs) z l in
        record { live = subst (IsLive u Signed) a (step_back u Signed c cs k (step u Start c cs h).here); spelled = a }

further_sign : (u c : ℕ) (cs : List ℕ) (t : Term) (ts : List Term) → IsAfterTerm u (c ∷ cs) → SignRead u (t ∷ ts) (c == 45) (c ∷ cs)
further_sign u c cs t ts h = by (c == 43) (c == 45) refl refl h.0
  where
    by : (v w : Bool) → (c == 43) ≡ v → (c == 45) ≡ w → (if v then Signed else (if w then Signed else Wrong)) ≡ Signed → SignRead u (t ∷ ts) (c == 45) (c ∷ cs)
    by true w p q k = let e : c ≡ 43 = is_equal c 43 p in subst (λ d. SignRead u (t ∷ ts) (d == 45) (d ∷ cs)) (sym e) (record { live = h.1; spelled = refl })
    by false true p q k = let e : c ≡ 45 = is_equal c 45 q in subst (λ d. SignRead u (t ∷ ts) (d == 45) (d ∷ cs)) (sym e) (record { live = h.1; spelled = refl })
    by false false p q k = absurd (cc)

pub sign_read : (u : ℕ) (ts : List Term) (rest : List ℕ) → GoesOn u ts rest → (length rest == 0) ≡ false → SignRead u ts (begins_with rest 45) rest
sign_read u ts [] h n = absurd (cc)
sign_read u [] (c ∷ cs) h n = first_sign u c cs h.0 h.1
sign_read u (t ∷ ts) (c ∷ cs) h n = further_sign u c cs t ts h

more_terms_more : (ts : List Term) (t : Term) (xs : List ℕ) → more_terms (ts ++ t ∷ []) ++ xs ≡ more_terms ts ++ (term_text (codes "+") t ++ xs)
more_terms_more [] t xs = ap (λ l. l ++ xs) (append-nil (term_text (codes "+") t))
more_terms_more (s ∷ ss) t xs =
    append_assoc (term_text (codes "+") s) (more_terms (ss ++ t ∷ [])) xs
    ∙ ap (λ l. term_text (codes "+") s ++ l) (more_terms_more ss t xs)
    ∙ sym (append_assoc (term_text (codes "+") s) (more_terms ss) (term_text (codes "+") t ++ xs))

front_more : (ts : List Term) (t : Term) (xs : List ℕ) → front (ts ++ t ∷ []) ++ xs ≡ front ts ++ (term_text (plus_of ts) t ++ xs)
front_more [] t xs = ap (λ l. l ++ xs) (append-nil (term_text [] t))
front_more (s ∷ ss) t xs =
    append_assoc (term_text [] s) (more_terms (ss ++ t ∷ [])) xs
    ∙ ap (λ l. term_text [] s ++ l) (more_terms_more ss t xs)
    ∙ sym (append_assoc (term_text [] s) (more_terms ss) (term_text (codes "+") t ++ xs))

terms_in_range : (u : ℕ) (ts : List Term) (t : Term) → AreInRange u ts → IsTermInRange u t → AreInRange u (ts ++ t ∷ [])
terms_in_range u [] t h k = (k, tt)
terms_in_range u (s ∷ ss) t h k = (h.0, terms_in_range u ss t h.1 k)

goes_on_more : (u : ℕ) (ts : List Term) (t : Term) (rest : List ℕ) → IsAfterTerm u rest → GoesOn u (ts ++ t ∷ []) rest
goes_on_more u [] t rest h = h
goes_on_more u (s ∷ ss) t rest h = h

pub record TermsMore (u : ℕ) (text : List ℕ) (new : List Term) (rest : List ℕ) : Type 0 where
  pub spelled : front new ++ rest ≡ text
  pub in_range : AreInRange u new
  pub goes_on : GoesOn u new rest

pub terms_more : (u : ℕ) (text rest further : List ℕ) (negative : Bool) (old new : List Term) (t : Term) → front old ++ rest ≡ text → AreInRange u old → GoesOn u old rest → (length rest == 0) ≡ false → negative ≡ begins_with rest 45 → IsTermFront u negative (after_sign rest) t further → new ≡ old ++ t ∷ [] → TermsMore u text new further
terms_more u text rest further negative old new t e r g n b f appended =
    let s = sign_read u old rest g n in
    let k : rest ≡ term_text (plus_of old) t ++ further = s.spelled ∙ ap (λ v. (if v then codes "-" else plus_of old) ++ after_sign rest) (sym b) ∙ f.spelled (plus_of old) in
    record {
      spelled = ap (λ ts. front ts ++ further) appended ∙ front_more old t further ∙ ap (λ l. front old ++ l) (sym k) ∙ e;
      in_range = subst (AreInRange u) (sym appended) (terms_in_range u old t r f.in_range);
      goes_on = subst (λ ts. GoesOn u ts further) (sym appended) (goes_on_more u old t further f.follows);
    }

pub sign_shorter : (rest : List ℕ) → length (after_sign rest) ≤ length rest
sign_shorter [] = omega arith
sign_shorter (c ∷ cs) = by ((c == 43) || (c == 45))
  where
    by : (b : Bool) → length (if b then cs else c ∷ cs) ≤ suc (length cs)
    by true = omega arith
    by false = omega arith

pub terms_end : (u : ℕ) (text rest : List ℕ) (ts : List Term) → front ts ++ rest ≡ text → GoesOn u ts rest → (length rest == 0) ≡ true → text ≡ poly_text ts
terms_end u text (c ∷ cs) ts e g n = let k = is_equal (suc (length cs)) 0 n in absurd (omega arith)
terms_end u text [] [] e g n = let k : false ≡ true = g.0.form in absurd (cc)
terms_end u text [] (t ∷ ts) e g n = sym e ∙ append-nil (front (t ∷ ts))
