-- The coefficients of the coefficient of a power.
use Rattle.std.specs.Prelude.{◌≡◌, ◌≢◌, ◌<◌, ℕ, zero, suc, ◌+◌, true, false, Bool, if◌then◌else◌, ◌==◌, pos, ◌+ℤ◌, List, [], ◌∷◌, refl}
use mathlib.Core.Logic.{◌⊎◌, inl, inr}
use Rattle.std.proofs.Common.{arith, sym, ◌∙◌, ap, subst}
use Rattle.std.proofs.lemmas.Bool.Decides.{eqb_tells}
use Rattle.monomial.specs.Monomials.{exponent, monomial_times, without, IsPowers}
use Rattle.monomial.proofs.Exponents.{exponent_here, exponent_there, exponent-times, IsPowers-times, exponent-without, exponent-without_own, IsPowers-without, same_from_exponents}
use Rattle.sparse_poly.specs.declared.Term.{Term}
use Rattle.sparse_poly.specs.Polynomials.{coefficient, is_of}
use Rattle.sparse_poly.specs.Reads.{coefficient_of_power}
use Rattle.sparse_poly.proofs.Evaluation.{is_of-same, is_of-own, zero_plus}
use Rattle.poly_laws.specs.Terms.{HavePowers, variable_power}

-- a term without a variable
abbrev term_without : ℕ → Term → Term
term_without v t = record { monomial = without v t.monomial; coeff = t.coeff }

-- the exponents of a power
power_powers : (v k : ℕ) → IsPowers (variable_power v k)
power_powers v zero = tt
power_powers v (suc k) = (omega arith, tt, tt)

power_own : (v k : ℕ) → exponent (variable_power v k) v ≡ k
power_own v zero = refl
power_own v (suc k) = exponent_here (v, suc k) [] v refl

power_other : (v k w : ℕ) → v ≢ w → exponent (variable_power v k) w ≡ 0
power_other v zero w n = refl
power_other v (suc k) w n = exponent_there (v, suc k) [] w n

-- m times v^k is the monomial of a term exactly where v has the exponent k in it, and m is what is left without v
joined : (v k : ℕ) (m n : List (ℕ × ℕ)) → IsPowers m → IsPowers n → exponent m v ≡ 0 → exponent n v ≡ k → m ≡ without v n → monomial_times m (variable_power v k) ≡ n
joined v k m n h i e f s =
    same_from_exponents _ n (IsPowers-times m (variable_power v k) h (power_powers v k)) i (λ w. exponent-times m (variable_power v k) w h (power_powers v k) ∙ each w (eqb_tells v w))
  where
    each : (w : ℕ) → ((v == w ≡ true) × (v ≡ w)) ⊎ ((v == w ≡ false) × (v ≢ w)) → exponent m w + exponent (variable_power v k) w ≡ exponent n w
    each w (inl (t, g)) = subst (λ x. exponent m x + exponent (variable_power v k) x ≡ exponent n x) g (omega (arith, e, power_own v k, f))
    each w (inr (t, g)) = omega (arith, power_other v k w g, ap (λ x. exponent x w) s, exponent-without v w n g)

parted : (v k : ℕ) (m n : List (ℕ × ℕ)) → IsPowers m → IsPowers n → exponent m v ≡ 0 → monomial_times m (variable_power v k) ≡ n → (exponent n v ≡ k) × (m ≡ without v n)
parted v k m n h i e s = (omega (arith, at v, e, power_own v k), same_from_exponents m (without v n) h (IsPowers-without v n i) (λ w. each w (eqb_tells v w)))
  where
    at : (w : ℕ) → exponent n w ≡ exponent m w + exponent (variable_power v k) w
    at w = ap (λ x. exponent x w) (sym s) ∙ exponent-times m (variable_power v k) w h (power_powers v k)

    each : (w : ℕ) → ((v == w ≡ true) × (v ≡ w)) ⊎ ((v == w ≡ false) × (v ≢ w)) → exponent m w ≡ exponent (without v n) w
    each w (inl (t, g)) = subst (λ x. exponent m x ≡ exponent (without v n) x) g (e ∙ sym (exponent-without_own v n))
    each w (inr (t, g)) = omega (arith, at w, power_other v k w g, exponent-without v w n g)

-- two tests that hold together
same_tests : (b c : Bool) → (b ≡ true → c ≡ true) → (c ≡ true → b ≡ true) → b ≡ c
same_tests true c f g = sym (f refl)
same_tests false true f g = g refl
same_tests false false f g = refl

own_test : (m : List (ℕ × ℕ)) (t : Term) → m ≡ t.monomial → is_of m t ≡ true
own_test m t e = ap (λ n. is_of n t) e ∙ is_of-own t

taken_test : (v k : ℕ) (m : List (ℕ × ℕ)) (t : Term) → IsPowers m → IsPowers t.monomial → exponent m v ≡ 0 → exponent t.monomial v ≡ k → is_of m (term_without v t) ≡ is_of (monomial_times m (variable_power v k)) t
taken_test v k m t h i e f =
    same_tests (is_of m (term_without v t)) (is_of (monomial_times m (variable_power v k)) t)
    (λ b. own_test _ t (joined v k m t.monomial h i e f (is_of-same m (term_without v t) b)))
    (λ b. own_test m (term_without v t) (parted v k m t.monomial h i e (is_of-same _ t b)).1)

left_test : (v k : ℕ) (m : List (ℕ × ℕ)) (t : Term) → IsPowers m → IsPowers t.monomial → exponent m v ≡ 0 → exponent t.monomial v ≢ k → is_of (monomial_times m (variable_power v k)) t ≡ false
left_test v k m t h i e n = each (is_of (monomial_times m (variable_power v k)) t) refl
  where
    each : (b : Bool) → is_of (monomial_times m (variable_power v k)) t ≡ b → is_of (monomial_times m (variable_power v k)) t ≡ false
    each true b = absurd (n (parted v k m t.monomial h i e (is_of-same _ t b)).0)
    each false b = b

pub coefficient-power : (v k : ℕ) (p : List Term) (m : List (ℕ × ℕ)) → HavePowers p → IsPowers m → exponent m v ≡ 0 → coefficient (coefficient_of_power v k p) m ≡ coefficient p (monomial_times m (variable_power v k))
coefficient-power v k [] m h i e = refl
coefficient-power v k (t ∷ ts) m h i e = each (coefficient-power v k ts m h.1 i e) (eqb_tells (exponent t.monomial v) k)
  where
    each : coefficient (coefficient_of_power v k ts) m ≡ coefficient ts (monomial_times m (variable_power v k)) → ((exponent t.monomial v == k ≡ true) × (exponent t.monomial v ≡ k)) ⊎ ((exponent t.monomial v == k ≡ false) × (exponent t.monomial v ≢ k)) → coefficient (coefficient_of_power v k (t ∷ ts)) m ≡ coefficient (t ∷ ts) (monomial_times m (variable_power v k))
    each rest (inl (b, f)) =
        ap (λ x. coefficient (if x then term_without v t ∷ coefficient_of_power v k ts else coefficient_of_power v k ts) m) b
        ∙ ap (λ z. (if is_of m (term_without v t) then t.coeff else pos 0) +ℤ z) rest
        ∙ ap (λ x. (if x then t.coeff else pos 0) +ℤ coefficient ts (monomial_times m (variable_power v k))) (taken_test v k m t i h.0 e f)
    each rest (inr (b, n)) =
        ap (λ x. coefficient (if x then term_without v t ∷ coefficient_of_power v k ts else coefficient_of_power v k ts) m) b
        ∙ rest
        ∙ sym (zero_plus (coefficient ts (monomial_times m (variable_power v k))))
        ∙ ap (λ x. (if x then t.coeff else pos 0) +ℤ coefficient ts (monomial_times m (variable_power v k))) (sym (left_test v k m t i h.0 e n))

pub coefficient-within : (v k : ℕ) (p : List Term) (m : List (ℕ × ℕ)) → 0 < exponent m v → coefficient (coefficient_of_power v k p) m ≡ pos 0
coefficient-within v k [] m l = refl
coefficient-within v k (t ∷ ts) m l = each (coefficient-within v k ts m l) (eqb_tells (exponent t.monomial v) k)
  where
    apart : (b : Bool) → is_of m (term_without v t) ≡ b → is_of m (term_without v t) ≡ false
    apart true b = absurd (omega (arith, l, ap (λ x. exponent x v) (is_of-same m (term_without v t) b), exponent-without_own v t.monomial))
    apart false b = b

    each : coefficient (coefficient_of_power v k ts) m ≡ pos 0 → ((exponent t.monomial v == k ≡ true) × (exponent t.monomial v ≡ k)) ⊎ ((exponent t.monomial v == k ≡ false) × (exponent t.monomial v ≢ k)) → coefficient (coefficient_of_power v k (t ∷ ts)) m ≡ pos 0
    each rest (inl (b, f)) =
        ap (λ x. coefficient (if x then term_without v t ∷ coefficient_of_power v k ts else coefficient_of_power v k ts) m) b
        ∙ ap (λ x. (if x then t.coeff else pos 0) +ℤ coefficient (coefficient_of_power v k ts) m) (apart (is_of m (term_without v t)) refl)
        ∙ zero_plus (coefficient (coefficient_of_power v k ts) m)
        ∙ rest
    each rest (inr (b, n)) =
        ap (λ x. coefficient (if x then term_without v t ∷ coefficient_of_power v k ts else coefficient_of_power v k ts) m) b
        ∙ rest
