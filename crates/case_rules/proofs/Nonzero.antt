-- Multipliers of steps that are not zero.
use Rattle.std.specs.Prelude.{◌≡◌, ◌≢◌, ◌⊎◌, ℕ, zero, suc, max, true, false, if◌then◌else◌, ◌==◌, pos, List, [], ◌∷◌, refl}
use mathlib.Core.Logic.{inl, inr}
use Rattle.std.proofs.Common.{arith, sym, ◌∙◌, ap}
use Rattle.std.proofs.lemmas.Bool.Decides.{eqb_tells}
use Rattle.monomial.specs.Monomials.{exponent, without}
use Rattle.sparse_poly.specs.declared.Term.{Term}
use Rattle.sparse_poly.specs.Polynomials.{coefficient, products}
use Rattle.sparse_poly.specs.Contributions.{IsPoly}
use Rattle.sparse_poly.specs.Reads.{degree_in, coefficient_of_power, leading_in}
use Rattle.sparse_poly.specs.Clearing.{IsCleared}
use Rattle.sparse_poly.proofs.Clearings.{cleared_product}
use Rattle.sparse_poly.proofs.Same.{same_polynomial}
use Rattle.pseudo_rem.specs.Steps.{times_power}

-- the leading coefficient of what is not zero
leading_some : (v k : ℕ) (p : List Term) → p ≢ [] → degree_in v p ≡ k → coefficient_of_power v k p ≢ []
leading_some v k [] z e g = absurd (z refl)
leading_some v k (t ∷ []) z e g = each (eqb_tells (exponent t.monomial v) k)
  where
    each : ((exponent t.monomial v == k) ≡ true) × (exponent t.monomial v ≡ k) ⊎ ((exponent t.monomial v == k) ≡ false) × (exponent t.monomial v ≢ k) → ⊥
    each (inl h) = cc (sym (ap (λ b. if b then record { monomial = without v t.monomial; coeff = t.coeff } ∷ [] else []) h.0) ∙ g)
    each (inr h) = absurd (h.1 (omega (arith, e)))
leading_some v k (t ∷ u ∷ us) z e g = each (eqb_tells (exponent t.monomial v) k) (leading_some v k (u ∷ us) (λ x. cc x))
  where
    other : (a b k : ℕ) → max a b ≡ k → a ≢ k → b ≡ k
    other a b k e n = grind arith

    rest : List Term
    rest = coefficient_of_power v k (u ∷ us)

    each : ((exponent t.monomial v == k) ≡ true) × (exponent t.monomial v ≡ k) ⊎ ((exponent t.monomial v == k) ≡ false) × (exponent t.monomial v ≢ k) → (degree_in v (u ∷ us) ≡ k → rest ≢ []) → ⊥
    each (inl h) r = cc (sym (ap (λ b. if b then record { monomial = without v t.monomial; coeff = t.coeff } ∷ rest else rest) h.0) ∙ g)
    each (inr h) r = r (other (exponent t.monomial v) (degree_in v (u ∷ us)) k e h.1) (sym (ap (λ b. if b then record { monomial = without v t.monomial; coeff = t.coeff } ∷ rest else rest) h.0) ∙ g)

pub leading_nonzero : (v : ℕ) (p : List Term) → p ≢ [] → leading_in v p ≢ []
leading_nonzero v p z = leading_some v (degree_in v p) p z refl

pub power_nonzero : (v k : ℕ) (p : List Term) → p ≢ [] → times_power v k p ≢ []
power_nonzero v zero p z = z
power_nonzero v (suc k) [] z = absurd (z refl)
power_nonzero v (suc k) (t ∷ ts) z = λ e. cc e

-- the factor of what is not zero
pub factor_nonzero : (units : List (List Term)) (p f r : List Term) → IsPoly p → p ≢ [] → IsCleared units p f r → f ≢ []
factor_nonzero units p f r h z c e = z (same_polynomial p [] h (record { falling = tt; monomials = tt; apart = tt; in_range = tt }) (λ m. cleared_product units p f r c m ∙ ap (λ x. coefficient (products x r) m) e))

pub rest_nonzero : (units : List (List Term)) (p f r : List Term) → IsPoly p → p ≢ [] → IsCleared units p f r → r ≢ []
rest_nonzero units p f r h z c e = z (same_polynomial p [] h (record { falling = tt; monomials = tt; apart = tt; in_range = tt }) (λ m. cleared_product units p f r c m ∙ ap (λ x. coefficient (products f x) m) e ∙ nothing f m))
  where
    nothing : (f : List Term) (m : List (ℕ × ℕ)) → coefficient (products f []) m ≡ pos 0
    nothing [] m = refl
    nothing (t ∷ ts) m = nothing ts m
