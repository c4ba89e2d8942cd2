-- Contributions have their variables below n where those of the factors are, and so has what they add up to.
use Rattle.std.specs.Prelude.{◌≡◌, ◌≢◌, ◌<◌, ℕ, Bool, true, false, if◌then◌else◌, ℤ, pos, negsuc, zero, suc, ◌+ℤ◌, List, [], ◌∷◌, refl}
use Rattle.std.proofs.Common.{sym, ◌∙◌, ap, subst}
use Rattle.std.specs.List.{AllByRecursion}
use Rattle.std.specs.FinMap.Entries.{by_order}
use Rattle.std.specs.Ordering.{nat_cmp}
use Rattle.std.specs.declared.cmp.Ordering.{Ordering}
use Rattle.std.specs.declared.cmp.Ordering.TheVariants.{Less, Equal, Greater}
use Rattle.monomial.specs.Monomials.{monomial_cmp, monomial_times}
use Rattle.sparse_poly.specs.declared.Term.{Term}
use Rattle.sparse_poly.specs.Polynomials.{coefficient, is_of, products, row, negated, constant, IsSum}
use Rattle.sparse_poly.specs.Contributions.{contributions, IsPoly, IsFalling}
use Rattle.sparse_poly.proofs.Descending.{all_both}
use Rattle.sparse_poly.proofs.Evaluation.{is_of-same, zero_plus}
use Rattle.sparse_poly.proofs.Same.{coefficient_above, coefficient_leading}
use Rattle.sparse_poly.specs.Reads.{HasVariablesBelow}

module _ (n : ℕ) where
  -- the variables of a monomial are below n, and those of a term
  abbrev pub Below : List (ℕ × ℕ) → Type 0
  Below m = AllByRecursion (λ (q : ℕ × ℕ). q.0 < n) m

  abbrev pub TermBelow : Term → Type 0
  TermBelow t = Below t.monomial

  -- the contributions
  ordered : (o : Ordering) (a b c : List (ℕ × ℕ)) → Below a → Below b → Below c → Below (by_order o a b c)
  ordered Less a b c p q r = p
  ordered Equal a b c p q r = q
  ordered Greater a b c p q r = r

  pub times_below : (a b : List (ℕ × ℕ)) → Below a → Below b → Below (monomial_times a b)
  times_below [] b p q = q
  times_below (x ∷ a) [] p q = p
  times_below (x ∷ a) (y ∷ b) p q =
      ordered (nat_cmp x.0 y.0) _ _ _ (q.0, times_below (x ∷ a) b p q.1) (p.0, times_below a b p.1 q.1) (p.0, times_below a (y ∷ b) p.1 q)

  negated_below : (ts : List Term) → HasVariablesBelow n ts → HasVariablesBelow n (negated ts)
  negated_below [] p = tt
  negated_below (t ∷ ts) p = (p.0, negated_below ts p.1)

  row_below : (t : Term) (us : List Term) → TermBelow t → HasVariablesBelow n us → HasVariablesBelow n (row t us)
  row_below t [] p q = tt
  row_below t (u ∷ us) p q = (times_below t.monomial u.monomial p q.0, row_below t us p q.1)

  pub products_below : (ts us : List Term) → HasVariablesBelow n ts → HasVariablesBelow n us → HasVariablesBelow n (products ts us)
  products_below [] us p q = tt
  products_below (t ∷ ts) us p q = all_both TermBelow (row t us) (products ts us) (row_below t us p.0 q) (products_below ts us p.1 q)

  pub contributions_below : (l q a p : List Term) → HasVariablesBelow n l → HasVariablesBelow n q → HasVariablesBelow n a → HasVariablesBelow n p → HasVariablesBelow n (contributions l q a p)
  contributions_below l q a p h i j k =
      all_both TermBelow (products l q) (negated (products a p)) (products_below l q h i) (negated_below (products a p) (products_below a p j k))

  pub constant_below : (z : ℤ) → HasVariablesBelow n (constant z)
  constant_below (pos zero) = tt
  constant_below (pos (suc k)) = (tt, tt)
  constant_below (negsuc k) = (tt, tt)

  -- a monomial with a coefficient is that of a contribution
  first_or_later : (t : Term) (ts : List Term) (m : List (ℕ × ℕ)) (b : Bool) → is_of m t ≡ b → TermBelow t → (coefficient ts m ≢ pos 0 → Below m) → coefficient (t ∷ ts) m ≢ pos 0 → Below m
  first_or_later t ts m true e h later a = subst Below (sym (is_of-same m t e)) h
  first_or_later t ts m false e h later a = later (λ z. a (ap (λ b. (if b then t.coeff else pos 0) +ℤ coefficient ts m) e ∙ zero_plus (coefficient ts m) ∙ z))

  pub from_contribution : (cs : List Term) (m : List (ℕ × ℕ)) → HasVariablesBelow n cs → coefficient cs m ≢ pos 0 → Below m
  from_contribution [] m h a = absurd (a refl)
  from_contribution (t ∷ ts) m h a = first_or_later t ts m (is_of m t) refl h.0 (from_contribution ts m h.1) a

  -- each monomial of a polynomial has a coefficient
  later_coefficient : (t : Term) (ts : List Term) (m : List (ℕ × ℕ)) (b : Bool) → is_of m t ≡ b → AllByRecursion (λ (u : Term). monomial_cmp u.monomial t.monomial ≡ Less) ts → coefficient ts m ≢ pos 0 → coefficient (t ∷ ts) m ≢ pos 0
  later_coefficient t ts m true e h a z = a (ap (coefficient ts) (is_of-same m t e) ∙ coefficient_above t.monomial ts h)
  later_coefficient t ts m false e h a z = a (sym (ap (λ b. (if b then t.coeff else pos 0) +ℤ coefficient ts m) e ∙ zero_plus (coefficient ts m)) ∙ z)

  poly_below : (p : List Term) → IsFalling p → AllByRecursion (λ (t : Term). t.coeff ≢ pos 0) p → ((m : List (ℕ × ℕ)) → coefficient p m ≢ pos 0 → Below m) → HasVariablesBelow n p
  poly_below [] f a h = tt
  poly_below (t ∷ ts) f a h = (
    h t.monomial (λ z. a.0 (sym (coefficient_leading t ts f.0) ∙ z)),
    poly_below ts f.1 a.1 (λ m c. h m (later_coefficient t ts m (is_of m t) refl f.0 c)),
  )

  pub sum_below : (p cs : List Term) → IsPoly p → IsSum p cs → HasVariablesBelow n cs → HasVariablesBelow n p
  sum_below p cs h s c = poly_below p h.falling h.apart (λ m a. from_contribution cs m c (λ z. a (s m ∙ z)))
