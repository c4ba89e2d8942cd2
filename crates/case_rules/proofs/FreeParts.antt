-- A variable that divides a product and not one factor divides the other.
use Rattle.std.specs.Prelude.{◌≡◌, ℕ, zero, suc, Bool, true, false, if◌then◌else◌, ℤ, pos, ◌+ℤ◌, List, [], ◌∷◌, ◌++◌, refl}
use Rattle.std.proofs.Common.{arith, sym, ◌∙◌, ap, subst}
use Rattle.std.specs.List.{AllByRecursion}
use Rattle.monomial.specs.Monomials.{exponent, monomial_cmp, monomial_times, IsPowers}
use Rattle.monomial.proofs.Exponents.{exponent-times}
use Rattle.std.specs.declared.cmp.Ordering.TheVariants.{Less}
use Rattle.sparse_poly.specs.declared.Term.{Term}
use Rattle.sparse_poly.specs.Polynomials.{is_of, coefficient, term_times, row, products, IsSum}
use Rattle.sparse_poly.specs.Contributions.{IsPoly, IsFalling}
use Rattle.sparse_poly.specs.Clearing.{IsDividedBy}
use Rattle.sparse_poly.proofs.Evaluation.{is_of-same, zero_plus}
use Rattle.sparse_poly.proofs.OneQuotient.{one_factor}
use Rattle.case_rules.proofs.Sides.{ArePowers, powers_of}

module _ (v : ℕ) where
  -- the terms without the variable
  abbrev keep : ℕ → Term → List Term → List Term
  keep zero t ts = t ∷ ts
  keep (suc n) t ts = ts

  abbrev pub free : List Term → List Term
  free [] = []
  free (t ∷ ts) = keep (exponent t.monomial v) t (free ts)

  free_of_divided : (p : List Term) → IsDividedBy v p → free p ≡ []
  free_of_divided [] h = refl
  free_of_divided (t ∷ ts) h = each (exponent t.monomial v) refl (free_of_divided ts h.1)
    where
      each : (n : ℕ) → exponent t.monomial v ≡ n → free ts ≡ [] → keep n t (free ts) ≡ []
      each zero e r = absurd (omega (arith, e, h.0))
      each (suc n) e r = r

  divided_of_free : (p : List Term) → free p ≡ [] → IsDividedBy v p
  divided_of_free [] h = tt
  divided_of_free (t ∷ ts) h = each (exponent t.monomial v) refl h (divided_of_free ts)
    where
      each : (n : ℕ) → exponent t.monomial v ≡ n → keep n t (free ts) ≡ [] → (free ts ≡ [] → IsDividedBy v ts) → IsDividedBy v (t ∷ ts)
      each zero e g r = absurd (cc g)
      each (suc n) e g r = (omega (arith, e), r g)

  every_free : (P : Term → Type 0) (p : List Term) → AllByRecursion P p → AllByRecursion P (free p)
  every_free P [] h = tt
  every_free P (t ∷ ts) h = each (exponent t.monomial v) (every_free P ts h.1)
    where
      each : (n : ℕ) → AllByRecursion P (free ts) → AllByRecursion P (keep n t (free ts))
      each zero r = (h.0, r)
      each (suc n) r = r

  falling_free : (p : List Term) → IsFalling p → IsFalling (free p)
  falling_free [] h = tt
  falling_free (t ∷ ts) h = each (exponent t.monomial v) (falling_free ts h.1)
    where
      each : (n : ℕ) → IsFalling (free ts) → IsFalling (keep n t (free ts))
      each zero r = (every_free (λ (u : Term). monomial_cmp u.monomial t.monomial ≡ Less) ts h.0, r)
      each (suc n) r = r

  poly_free : (p : List Term) → IsPoly p → IsPoly (free p)
  poly_free p h = record {
    falling = falling_free p h.falling;
    monomials = every_free _ p h.monomials;
    apart = every_free _ p h.apart;
    in_range = every_free _ p h.in_range;
  }

  -- the coefficients of these terms
  abbrev at_zero : ℕ → ℤ → ℤ
  at_zero zero z = z
  at_zero (suc n) z = pos 0

  coefficient_free : (p : List Term) (m : List (ℕ × ℕ)) → coefficient (free p) m ≡ at_zero (exponent m v) (coefficient p m)
  coefficient_free [] m = each (exponent m v)
    where
      each : (n : ℕ) → pos 0 ≡ at_zero n (pos 0)
      each zero = refl
      each (suc n) = refl
  coefficient_free (t ∷ ts) m = each (exponent t.monomial v) refl (is_of m t) refl (exponent m v) refl (coefficient_free ts m)
    where
      each : (n : ℕ) → exponent t.monomial v ≡ n → (b : Bool) → is_of m t ≡ b → (k : ℕ) → exponent m v ≡ k → coefficient (free ts) m ≡ at_zero k (coefficient ts m) → coefficient (keep n t (free ts)) m ≡ at_zero k ((if b then t.coeff else pos 0) +ℤ coefficient ts m)
      each zero e true g zero f h = ap (λ b. (if b then t.coeff else pos 0) +ℤ coefficient (free ts) m) g ∙ ap (λ z. t.coeff +ℤ z) h
      each zero e false g zero f h = ap (λ b. (if b then t.coeff else pos 0) +ℤ coefficient (free ts) m) g ∙ ap (λ z. pos 0 +ℤ z) h
      each zero e true g (suc k) f h = absurd (omega (arith, e, f, ap (λ n. exponent n v) (is_of-same m t g)))
      each zero e false g (suc k) f h = ap (λ b. (if b then t.coeff else pos 0) +ℤ coefficient (free ts) m) g ∙ zero_plus _ ∙ h
      each (suc n) e true g zero f h = absurd (omega (arith, e, f, ap (λ n. exponent n v) (is_of-same m t g)))
      each (suc n) e false g zero f h = h ∙ sym (zero_plus _)
      each (suc n) e b g (suc k) f h = h

  -- they multiply apart from the others
  free-append : (xs ys : List Term) → free (xs ++ ys) ≡ free xs ++ free ys
  free-append [] ys = refl
  free-append (x ∷ xs) ys = each (exponent x.monomial v) (free-append xs ys)
    where
      each : (n : ℕ) → free (xs ++ ys) ≡ free xs ++ free ys → keep n x (free (xs ++ ys)) ≡ keep n x (free xs) ++ free ys
      each zero r = ap (λ zs. x ∷ zs) r
      each (suc n) r = r

  free_row : (t : Term) (us : List Term) → IsPowers t.monomial → ArePowers us → exponent t.monomial v ≡ 0 → free (row t us) ≡ row t (free us)
  free_row t [] h i e = refl
  free_row t (u ∷ us) h i e = each (exponent u.monomial v) refl (exponent (monomial_times t.monomial u.monomial) v) refl (free_row t us h i.1 e)
    where
      each : (n : ℕ) → exponent u.monomial v ≡ n → (k : ℕ) → exponent (monomial_times t.monomial u.monomial) v ≡ k → free (row t us) ≡ row t (free us) → keep k (term_times t u) (free (row t us)) ≡ row t (keep n u (free us))
      each zero f zero g r = ap (λ zs. term_times t u ∷ zs) r
      each zero f (suc k) g r = absurd (omega (arith, e, f, g, exponent-times t.monomial u.monomial v h i.0))
      each (suc n) f zero g r = absurd (omega (arith, e, f, g, exponent-times t.monomial u.monomial v h i.0))
      each (suc n) f (suc k) g r = r

  no_row : (t : Term) (us : List Term) (n : ℕ) → IsPowers t.monomial → ArePowers us → exponent t.monomial v ≡ suc n → free (row t us) ≡ []
  no_row t [] n h i e = refl
  no_row t (u ∷ us) n h i e = each (exponent (monomial_times t.monomial u.monomial) v) refl (no_row t us n h i.1 e)
    where
      each : (k : ℕ) → exponent (monomial_times t.monomial u.monomial) v ≡ k → free (row t us) ≡ [] → keep k (term_times t u) (free (row t us)) ≡ []
      each zero g r = absurd (omega (arith, e, g, exponent-times t.monomial u.monomial v h i.0))
      each (suc k) g r = r

  free_products : (ts us : List Term) → ArePowers ts → ArePowers us → free (products ts us) ≡ products (free ts) (free us)
  free_products [] us h i = refl
  free_products (t ∷ ts) us h i = free-append (row t us) (products ts us) ∙ ap (λ z. free (row t us) ++ z) (free_products ts us h.1 i) ∙ each (exponent t.monomial v) refl
    where
      each : (n : ℕ) → exponent t.monomial v ≡ n → free (row t us) ++ products (free ts) (free us) ≡ products (keep n t (free ts)) (free us)
      each zero e = ap (λ z. z ++ products (free ts) (free us)) (free_row t us h.0 i e)
      each (suc n) e = ap (λ z. z ++ products (free ts) (free us)) (no_row t us n h.0 i e)

  -- p is the product of h and n, and the variable divides p and not n
  pub divides_other : (p h n : List Term) → IsPoly h → IsPoly n → IsSum p (products h n) → IsDividedBy v p → (IsDividedBy v n → ⊥) → IsDividedBy v h
  divides_other p h n i j s d none = divided_of_free h (each (free n) refl)
    where
      nothing : (m : List (ℕ × ℕ)) → pos 0 ≡ coefficient (products (free h) (free n)) m
      nothing m =
          ap (λ xs. coefficient xs m) (sym (free_of_divided p d))
          ∙ coefficient_free p m
          ∙ ap (at_zero (exponent m v)) (s m)
          ∙ sym (coefficient_free (products h n) m)
          ∙ ap (λ xs. coefficient xs m) (free_products h n (powers_of h i) (powers_of n j))

      each : (us : List Term) → free n ≡ us → free h ≡ []
      each [] e = absurd (none (divided_of_free n e))
      each (u ∷ us) e = sym (one_factor u us [] (free h) (subst IsPoly e (poly_free n j)) (poly_free [] (record { falling = tt; monomials = tt; apart = tt; in_range = tt })) (poly_free h i) (λ m. nothing m ∙ ap (λ xs. coefficient (products (free h) xs) m) e))
