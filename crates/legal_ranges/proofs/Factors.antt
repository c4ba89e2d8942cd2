-- The factors of a product that is not zero have their variables below n where those of the product are: its leading monomial is the product of
-- theirs, and each leading monomial has the greatest variable of its polynomial.
use Rattle.std.specs.Prelude.{◌≡◌, ◌≢◌, ◌<◌, ◌≤◌, ◌+◌, ℕ, pos, List, [], ◌∷◌, ◌++◌, refl}
use Rattle.std.proofs.Common.{arith, sym, ◌∙◌, subst}
use Rattle.std.proofs.lemmas.Cmp.{ranked}
use Rattle.std.specs.FinMap.Entries.{by_order}
use Rattle.std.specs.Ordering.{nat_cmp, MatchOrdering, ordering_then}
use Rattle.std.specs.declared.cmp.Ordering.{Ordering}
use Rattle.std.specs.declared.cmp.Ordering.TheVariants.{Less, Equal, Greater}
use Rattle.monomial.specs.Monomials.{monomial_cmp, monomial_times, IsBelow, IsPowers}
use Rattle.sparse_poly.specs.declared.Term.{Term}
use Rattle.sparse_poly.specs.Polynomials.{coefficient, term_times, row, products, IsSum}
use Rattle.sparse_poly.specs.Contributions.{IsPoly}
use Rattle.sparse_poly.specs.Standing.{AllMonomials}
use Rattle.sparse_poly.proofs.OneQuotient.{AllUnder, nonzero_product, tail_under}
use Rattle.sparse_poly.proofs.Same.{coefficient_leading, same_polynomial}
use Rattle.case_rules.proofs.Regular.{no_terms}
use Rattle.sparse_poly.specs.Reads.{HasVariablesBelow}
use Rattle.legal_ranges.proofs.Contributions.{Below, from_contribution}

no_products : (ts : List Term) (m : List (ℕ × ℕ)) → coefficient (products ts []) m ≡ pos 0
no_products [] m = refl
no_products (t ∷ ts) m = no_products ts m

module _ (n : ℕ) where
  -- both factors of a monomial
  factors_below : (a b : List (ℕ × ℕ)) → Below n (monomial_times a b) → Below n a × Below n b
  factors_below [] b h = (tt, h)
  factors_below (x ∷ a) [] h = (h, tt)
  factors_below (x ∷ a) (y ∷ b) h = each (nat_cmp x.0 y.0) (ranked x.0 y.0 (nat_cmp x.0 y.0) refl) h (factors_below (x ∷ a) b) (factors_below a b) (factors_below a (y ∷ b))
    where
      each : (o : Ordering) → MatchOrdering o (x.0 < y.0) (x.0 ≡ y.0) (y.0 < x.0) → Below n (by_order o (y ∷ monomial_times (x ∷ a) b) ((x.0, x.1 + y.1) ∷ monomial_times a b) (x ∷ monomial_times a (y ∷ b)))
          → (Below n (monomial_times (x ∷ a) b) → Below n (x ∷ a) × Below n b) → (Below n (monomial_times a b) → Below n a × Below n b) → (Below n (monomial_times a (y ∷ b)) → Below n a × Below n (y ∷ b)) → Below n (x ∷ a) × Below n (y ∷ b)
      each Less m h f g k = let i = f h.1 in (i.0, (h.0, i.1))
      each Equal m h f g k = let i = g h.1 in ((h.0, i.0), (subst (λ v. v < n) m h.0, i.1))
      each Greater m h f g k = let i = k h.1 in ((h.0, i.0), i.1)

  -- a lower monomial
  powers_below : (v : ℕ) (m : List (ℕ × ℕ)) → v < n → IsBelow v m → Below n m
  powers_below v [] l h = tt
  powers_below v (q ∷ qs) l h = (omega (arith, l, h.0), powers_below v qs l h.1)

  lower_below : (a b : List (ℕ × ℕ)) → monomial_cmp b a ≡ Less → IsPowers b → Below n a → Below n b
  lower_below a [] e h i = tt
  lower_below [] (q ∷ qs) e h i = absurd (cc e)
  lower_below (p ∷ ps) (q ∷ qs) e h i =
      let l : q.0 < n = omega (arith, i.0, first (nat_cmp q.0 p.0) (ranked q.0 p.0 (nat_cmp q.0 p.0) refl) e) in
      (l, powers_below q.0 qs l h.1)
    where
      first : (o : Ordering) → MatchOrdering o (q.0 < p.0) (q.0 ≡ p.0) (p.0 < q.0) → ordering_then (ordering_then o (nat_cmp q.1 p.1)) (monomial_cmp qs ps) ≡ Less → q.0 ≤ p.0
      first Less m e = omega (arith, m)
      first Equal m e = omega (arith, m)
      first Greater m e = absurd (cc e)

  -- all terms under a leading monomial
  under_below : (m : List (ℕ × ℕ)) (ts : List Term) → AllMonomials ts → AllUnder m ts → Below n m → HasVariablesBelow n ts
  under_below m [] h u i = tt
  under_below m (t ∷ ts) h u i = (lower_below m t.monomial u.0 h.0.powers i, under_below m ts h.1 u.1 i)

  led_below : (t : Term) (ts : List Term) → IsPoly (t ∷ ts) → Below n t.monomial → HasVariablesBelow n (t ∷ ts)
  led_below t ts h i = (i, under_below t.monomial ts h.monomials.1 h.falling.0 i)

  -- both factors of a product that is not zero
  pub product_below : (p g u : List Term) → IsPoly p → p ≢ [] → IsPoly g → IsPoly u → IsSum p (products g u) → HasVariablesBelow n p → HasVariablesBelow n g × HasVariablesBelow n u
  product_below p [] u h z i j s b = absurd (z (same_polynomial p [] h no_terms s))
  product_below p (t ∷ ts) [] h z i j s b = absurd (z (same_polynomial p [] h no_terms (λ m. s m ∙ no_products (t ∷ ts) m)))
  product_below p (t ∷ ts) (u ∷ us) h z i j s b = (led_below t ts i both.0, led_below u us j both.1)
    where
      leading : coefficient (products (t ∷ ts) (u ∷ us)) (monomial_times t.monomial u.monomial) ≡ (term_times t u).coeff
      leading = coefficient_leading (term_times t u) (row t us ++ products ts (u ∷ us)) (tail_under t u ts us i.monomials i.falling j.monomials j.falling)

      both : Below n t.monomial × Below n u.monomial
      both = factors_below t.monomial u.monomial (from_contribution n p (monomial_times t.monomial u.monomial) b (λ e. nonzero_product t.coeff u.coeff i.apart.0 j.apart.0 (sym leading ∙ sym (s (monomial_times t.monomial u.monomial)) ∙ e)))
