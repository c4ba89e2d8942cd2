-- Whether a polynomial is in form.
use Rattle.std.specs.Prelude.{◌≡◌, ◌≢◌, ◌<◌, ℕ, zero, suc, ◌+◌, ◌==◌, ◌⊎◌, Bool, IsTrue, not, if◌then◌else◌, true, false, length, take, slice_index_or, slice_get, ℤ, pos, ◌<ℤ◌, unsigned_abs, List, [], ◌∷◌, refl}
use Prim.Native.Nat.{◌∣◌}
use mathlib.Core.Logic.{inl, inr}
use Rattle.std.proofs.Common.{arith, sym, ◌∙◌, ap, subst}
use Rattle.std.proofs.lemmas.Int.{ints}
use Rattle.std.proofs.lemmas.Bool.{true≢false}
use Rattle.std.proofs.lemmas.Bool.Decides.{nat_tests}
use Rattle.std.proofs.Math.Nat.{eq-zero_of_zero-dvd}
use Rattle.std.proofs.lemmas.Nat.Gcd.{le_of_dvd}
use Rattle.std.specs.declared.option.Option.TheVariants.{None, Some}
use Rattle.monomial.specs.Monomials.{exponent, top}
use Rattle.sparse_poly.specs.declared.Term.{Term}
use Rattle.sparse_poly.specs.Contributions.{IsPoly}
use Rattle.sparse_poly.specs.Primitive.{IsPrimitive}
use Rattle.sparse_poly.specs.Factors.{IsContent}
use Rattle.sparse_poly.specs.Clearing.{IsDividedBy, HasDivisor, IsInForm}
use Rattle.sparse_poly.proofs.Adding.{take_one}
use Rattle.sparse_poly.proofs.Descending.{all_more}
use Rattle.sparse_poly.proofs.Ordered.{main_of_first}

pub no_power : (m : List (ℕ × ℕ)) (v : ℕ) (P : ℕ → Type 0) → ((k : ℕ) → k < length m → P (slice_index_or m k (0, 0)).0 → ⊥) → 0 < exponent m v → P v → ⊥
no_power [] v P h s q = absurd (omega arith)
no_power (p ∷ ps) v P h s q = elim (p.0 == v) as (λ b. (p.0 == v) ≡ b → ⊥) [
  | true ↦ λ e. let same : p.0 ≡ v = grind (arith, nat_tests) in h 0 (omega arith) (subst P (sym same) q)
  | false ↦ λ e. no_power ps v P (λ k l. h (suc k) (omega arith)) (subst (λ n. 0 < n) (ap (λ b. if b then p.1 else exponent ps v) e) s) q
] refl

pub IsDividedBy-more : (v : ℕ) (ts : List Term) (k : ℕ) (t : Term) → k < length ts → t ≡ slice_index_or ts k t → IsDividedBy v (take k ts) → 0 < exponent t.monomial v → IsDividedBy v (take (k + 1) ts)
IsDividedBy-more v ts k t l e d s = subst (IsDividedBy v) (sym (take_one ts k t l e)) (all_more (λ (u : Term). 0 < exponent u.monomial v) (take k ts) t d s)

pub one_size : (n : ℕ) → n ∣ 1 → n ≡ 1
one_size zero d = absurd (omega (arith, eq-zero_of_zero-dvd d))
one_size (suc n) d = let l = le_of_dvd (let some : 0 < 1 = omega arith in some) d in omega (arith, l)

pub primitive_one : (ts : List Term) (c : ℤ) → IsContent ts c → c ≡ pos 1 → IsPrimitive ts
primitive_one [] c h e = tt
primitive_one (t ∷ ts) c h e = (sign h.sign, λ d a. one_size d (subst (λ n. d ∣ n) (ap unsigned_abs e) (h.greatest d (λ z. cc z) a)))
  where
    sign : ((pos 0 <ℤ c) × (pos 0 <ℤ t.coeff)) ⊎ ((c <ℤ pos 0) × (t.coeff <ℤ pos 0)) → pos 0 <ℤ t.coeff
    sign (inl x) = x.1
    sign (inr x) = absurd (omega (arith, ints, x.0, e))

pub no_variable : (n : List Term) (t : Term) → Some t ≡ slice_get n 0 → IsPoly n → length t.monomial ≡ 0 → IsInForm n → ⊥
no_variable n t e p l i = i.varied (sym (main_of_first n t e p.falling) ∙ none t.monomial l)
  where
    none : (m : List (ℕ × ℕ)) → length m ≡ 0 → top m ≡ None
    none [] l = refl
    none (q ∷ qs) l = absurd (omega arith)

pub in_form : (n : List Term) (t : Term) (c : ℤ) → Some t ≡ slice_get n 0 → IsPoly n → length t.monomial ≢ 0 → IsContent n c → c ≡ pos 1 → ((v : ℕ) → 0 < exponent t.monomial v → IsDividedBy v n → ⊥) → IsInForm n
in_form [] t c e p l h o f = absurd (cc e)
in_form (x ∷ xs) t c e p l h o f = record {
  poly = p;
  primitive = primitive_one (x ∷ xs) c h o;
  varied = λ z. some t.monomial l (main_of_first (x ∷ xs) t e p.falling ∙ z);
  whole = λ v d. f v (let same : t ≡ x = cc e in subst (λ (y : Term). 0 < exponent y.monomial v) (sym same) d.0) d;
}
  where
    some : (m : List (ℕ × ℕ)) → length m ≢ 0 → top m ≡ None → ⊥
    some [] l z = l refl
    some (q ∷ qs) l z = absurd (cc z)

pub opposite_test : (n : List Term) (b : Bool) → (b ≡ false → IsInForm n) → (IsTrue b → HasDivisor n) → (IsTrue (not b) → IsInForm n) × (IsInForm n → IsTrue (not b))
opposite_test n true f g = (λ t. absurd (true≢false (sym t)), λ i. absurd (let h = g refl in i.whole h.variable h.divides))
opposite_test n false f g = (λ t. f refl, λ i. refl)
