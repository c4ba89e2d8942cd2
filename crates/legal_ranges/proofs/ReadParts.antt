-- The variables of what is read from a polynomial, and of products with a power of a variable.
use Rattle.std.specs.Prelude.{◌≡◌, ◌≢◌, ◌<◌, ℕ, zero, suc, Bool, true, false, if◌then◌else◌, ◌==◌, nat_lt, List, [], ◌∷◌, refl}
use mathlib.Core.Logic.{◌⊎◌, inl, inr}
use Rattle.std.proofs.Common.{arith, ◌∙◌, ap, subst}
use Rattle.std.proofs.lemmas.Bool.Decides.{eqb_tells}
use Rattle.std.proofs.lemmas.Option.{same_Some}
use Rattle.std.specs.declared.option.Option.{Option}
use Rattle.std.specs.declared.option.Option.TheVariants.{None, Some}
use Rattle.monomial.specs.Monomials.{exponent, top, without}
use Rattle.sparse_poly.specs.declared.Term.{Term}
use Rattle.sparse_poly.specs.Polynomials.{variable}
use Rattle.sparse_poly.specs.Contributions.{higher}
use Rattle.sparse_poly.specs.Reads.{degree_in, main_variable, coefficient_of_power, leading_in}
use Rattle.sparse_poly.specs.Clearing.{IsDividedBy}
use Rattle.pseudo_rem.specs.Steps.{raised, times_power}
use Rattle.sparse_poly.specs.Reads.{HasVariablesBelow}
use Rattle.legal_ranges.proofs.Contributions.{Below, times_below}

module _ (n : ℕ) where
  -- the coefficient of a power
  without_below : (v : ℕ) (m : List (ℕ × ℕ)) → Below n m → Below n (without v m)
  without_below v [] h = tt
  without_below v (q ∷ qs) h = each (q.0 == v) (without_below v qs h.1)
    where
      each : (b : Bool) → Below n (without v qs) → Below n (if b then without v qs else q ∷ without v qs)
      each true i = i
      each false i = (h.0, i)

  coefficient_below : (v k : ℕ) (p : List Term) → HasVariablesBelow n p → HasVariablesBelow n (coefficient_of_power v k p)
  coefficient_below v k [] h = tt
  coefficient_below v k (t ∷ ts) h = each (exponent t.monomial v == k) (coefficient_below v k ts h.1)
    where
      rest : List Term
      rest = coefficient_of_power v k ts

      each : (b : Bool) → HasVariablesBelow n rest → HasVariablesBelow n (if b then record { monomial = without v t.monomial; coeff = t.coeff } ∷ rest else rest)
      each true i = (without_below v t.monomial h.0, i)
      each false i = i

  pub leading_below : (v : ℕ) (p : List Term) → HasVariablesBelow n p → HasVariablesBelow n (leading_in v p)
  leading_below v p h = coefficient_below v (degree_in v p) p h

  -- a product with a power of a variable
  raised_below : (m : List (ℕ × ℕ)) (ts : List Term) → Below n m → HasVariablesBelow n ts → HasVariablesBelow n (raised m ts)
  raised_below m [] h i = tt
  raised_below m (t ∷ ts) h i = (times_below n m t.monomial h i.0, raised_below m ts h i.1)

  pub power_below : (v k : ℕ) (p : List Term) → v < n → HasVariablesBelow n p → HasVariablesBelow n (times_power v k p)
  power_below v zero p l h = h
  power_below v (suc k) p l h = raised_below ((v, suc k) ∷ []) p (l, tt) h

  -- the main variable
  top_below : (v : ℕ) (m : List (ℕ × ℕ)) → top m ≡ Some v → Below n m → v < n
  top_below v [] e h = absurd (cc e)
  top_below v (q ∷ qs) e h = subst (λ w. w < n) (same_Some q.0 v e) h.0

  pub main_below : (v : ℕ) (p : List Term) → main_variable p ≡ Some v → HasVariablesBelow n p → v < n
  main_below v [] e h = absurd (cc e)
  main_below v (t ∷ ts) e h = each (top t.monomial) (main_variable ts) refl e (main_below v ts)
    where
      each : (a b : Option ℕ) → top t.monomial ≡ a → higher a b ≡ Some v → (b ≡ Some v → HasVariablesBelow n ts → v < n) → v < n
      each None b f g r = r g h.1
      each (Some u) None f g r = top_below v t.monomial (f ∙ g) h.0
      each (Some u) (Some w) f g r = other (nat_lt u w) g
        where
          other : (b : Bool) → Some (if b then w else u) ≡ Some v → v < n
          other true x = r x h.1
          other false x = top_below v t.monomial (f ∙ x) h.0

  -- a variable that occurs
  occurring_below : (v : ℕ) (m : List (ℕ × ℕ)) → 0 < exponent m v → Below n m → v < n
  occurring_below v [] l h = absurd (omega (arith, l))
  occurring_below v (q ∷ qs) l h = each (eqb_tells q.0 v) (occurring_below v qs)
    where
      each : ((q.0 == v) ≡ true) × (q.0 ≡ v) ⊎ ((q.0 == v) ≡ false) × (q.0 ≢ v) → (0 < exponent qs v → Below n qs → v < n) → v < n
      each (inl e) r = subst (λ w. w < n) e.1 h.0
      each (inr e) r = r (omega (arith, l, ap {B = ℕ} (λ b. if b then q.1 else exponent qs v) e.0)) h.1

  -- a variable that divides what is not zero
  pub divisor_below : (v : ℕ) (p : List Term) → p ≢ [] → IsDividedBy v p → HasVariablesBelow n p → HasVariablesBelow n (variable v)
  divisor_below v [] z d h = absurd (z refl)
  divisor_below v (t ∷ ts) z d h = ((occurring_below v t.monomial d.0 h.0, tt), tt)
