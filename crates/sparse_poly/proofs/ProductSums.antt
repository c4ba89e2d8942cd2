-- The coefficients of a product depend on those of its factors alone, and in them products commute and associate.
use Rattle.std.specs.Prelude.{◌≡◌, ◌≤◌, ℕ, zero, suc, ◌+◌, true, false, if◌then◌else◌, ℤ, pos, ◌+ℤ◌, ◌*ℤ◌, List, [], ◌∷◌, ◌++◌, length, refl}
use Rattle.std.proofs.Common.{arith, sym, ◌∙◌, ap}
use Rattle.std.proofs.lemmas.Int.{ints}
use Rattle.std.proofs.Math.IntN.{*ℤ_comm, *ℤ-zero, *ℤ-one}
use Rattle.std.specs.List.{AllByRecursion}
use Rattle.std.specs.Ordering.{is_eq}
use Rattle.field_laws.specs.Whole.{same_diff, is_diff, diffs, *ℤ-+ℤ}
use Rattle.monomial.specs.Monomials.{monomial_cmp, monomial_times, IsPowers}
use Rattle.monomial.proofs.Exponents.{exponent-times, IsPowers-times, same_from_exponents}
use Rattle.sparse_poly.specs.declared.Term.{Term}
use Rattle.sparse_poly.specs.Polynomials.{is_of, coefficient, term_times, row, products, IsSum}
use Rattle.sparse_poly.specs.Signs.{sum_with}
use Rattle.sparse_poly.proofs.Adding.{signed_products-append}
use Rattle.sparse_poly.proofs.Evaluation.{others, others-same, others-short, others-first, is_of-same, coefficient-append, zero_plus}
use Rattle.sparse_poly.proofs.OneQuotient.{times_comm}
use Rattle.sparse_poly.specs.OrderLaws.{same_term}

pub *ℤ_assoc : (a b c : ℤ) → (a *ℤ b) *ℤ c ≡ a *ℤ (b *ℤ c)
*ℤ_assoc a b c = rw (is_diff a, is_diff b, is_diff c) (simp diffs (same_diff _ _ _ _ (omega arith)))

pub +ℤ-*ℤ : (a b c : ℤ) → (a +ℤ b) *ℤ c ≡ (a *ℤ c) +ℤ (b *ℤ c)
+ℤ-*ℤ a b c = rw (is_diff a, is_diff b, is_diff c) (simp diffs (same_diff _ _ _ _ (omega arith)))

pub zero_times : (a : ℤ) → pos 0 *ℤ a ≡ pos 0
zero_times a = *ℤ_comm (pos 0) a ∙ *ℤ-zero a

pub times_one : (a : ℤ) → a *ℤ pos 1 ≡ a
unfolding lib.IntN.one
times_one a = *ℤ-one a

module _ (f : List (ℕ × ℕ) → ℤ) where
  -- the terms of one monomial apart from the others
  split : (m : List (ℕ × ℕ)) (ts : List Term) → sum_with f ts ≡ (coefficient ts m *ℤ f m) +ℤ sum_with f (others m ts)
  split m [] = sym (ap (λ z. z +ℤ pos 0) (zero_times (f m)))
  split m (t ∷ ts) = elim (is_of m t) as (λ b. is_of m t ≡ b → sum_with f (t ∷ ts) ≡ (((if b then t.coeff else pos 0) +ℤ coefficient ts m) *ℤ f m) +ℤ sum_with f (if b then others m ts else t ∷ others m ts)) [
    | true ↦ λ e. own _ _ _ _ _ _ (ap (λ n. t.coeff *ℤ f n) (sym (is_of-same m t e))) (split m ts) (+ℤ-*ℤ t.coeff (coefficient ts m) (f m))
    | false ↦ λ e. apart _ _ _ _ (split m ts) ∙ ap (λ z. (z *ℤ f m) +ℤ sum_with f (t ∷ others m ts)) (sym (zero_plus (coefficient ts m)))
  ] refl
    where
      own : (a b c d s x : ℤ) → a ≡ b → x ≡ c +ℤ d → s ≡ b +ℤ c → a +ℤ x ≡ s +ℤ d
      own a b c d s x g h i = omega (arith, ints, g, h, i)

      apart : (a b c d : ℤ) → b ≡ c +ℤ d → a +ℤ b ≡ c +ℤ (a +ℤ d)
      apart a b c d h = omega (arith, ints, h)

  -- by the number of terms, n at most
  same_within : (n : ℕ) (ts us : List Term) → length ts + length us ≤ n → IsSum ts us → sum_with f ts ≡ sum_with f us
  same_within n [] [] h e = refl
  same_within zero [] (u ∷ us) h e = absurd (omega arith)
  same_within zero (t ∷ ts) us h e = absurd (omega arith)
  same_within (suc n) [] (u ∷ us) h e =
      let m = u.monomial in
      let less = others-short m us in
      let small : length (others m []) + length (others m (u ∷ us)) ≤ n = rw (others-first u us) (omega arith) in
      split m [] ∙ ap (λ z. (z *ℤ f m) +ℤ sum_with f (others m [])) (e m)
      ∙ ap (λ z. (coefficient (u ∷ us) m *ℤ f m) +ℤ z) (same_within n (others m []) (others m (u ∷ us)) small (others-same m [] (u ∷ us) e))
      ∙ sym (split m (u ∷ us))
  same_within (suc n) (t ∷ ts) us h e =
      let m = t.monomial in
      let less = others-short m ts in
      let also = others-short m us in
      let small : length (others m (t ∷ ts)) + length (others m us) ≤ n = rw (others-first t ts) (omega arith) in
      split m (t ∷ ts) ∙ ap (λ z. (z *ℤ f m) +ℤ sum_with f (others m (t ∷ ts))) (e m)
      ∙ ap (λ z. (coefficient us m *ℤ f m) +ℤ z) (same_within n (others m (t ∷ ts)) (others m us) small (others-same m (t ∷ ts) us e))
      ∙ sym (split m us)

pub sum_with-same : (f : List (ℕ × ℕ) → ℤ) (ts us : List Term) → IsSum ts us → sum_with f ts ≡ sum_with f us
sum_with-same f ts us e = same_within f (length ts + length us) ts us (omega arith) e

sum_with-each : (f g : List (ℕ × ℕ) → ℤ) (ts : List Term) → ((m : List (ℕ × ℕ)) → f m ≡ g m) → sum_with f ts ≡ sum_with g ts
sum_with-each f g [] h = refl
sum_with-each f g (t ∷ ts) h = ap (λ z. (t.coeff *ℤ z) +ℤ sum_with f ts) (h t.monomial) ∙ ap (λ z. (t.coeff *ℤ g t.monomial) +ℤ z) (sum_with-each f g ts h)

-- 1 where k times n is m, and the sum of the coefficients of those terms whose monomial times k is m
abbrev meets : List (ℕ × ℕ) → List (ℕ × ℕ) → List (ℕ × ℕ) → ℤ
meets m k n = if is_eq (monomial_cmp m (monomial_times k n)) then pos 1 else pos 0

abbrev matched : List Term → List (ℕ × ℕ) → List (ℕ × ℕ) → ℤ
matched us m k = sum_with (meets m k) us

row_matched : (t : Term) (us : List Term) (m : List (ℕ × ℕ)) → coefficient (row t us) m ≡ t.coeff *ℤ matched us m t.monomial
row_matched t [] m = sym (*ℤ-zero t.coeff)
row_matched t (u ∷ us) m = elim (is_eq (monomial_cmp m (monomial_times t.monomial u.monomial))) as (λ b. (if b then t.coeff *ℤ u.coeff else pos 0) +ℤ coefficient (row t us) m ≡ t.coeff *ℤ ((u.coeff *ℤ (if b then pos 1 else pos 0)) +ℤ matched us m t.monomial)) [
  | true ↦
      ap (λ z. (t.coeff *ℤ u.coeff) +ℤ z) (row_matched t us m)
      ∙ sym (*ℤ-+ℤ t.coeff u.coeff (matched us m t.monomial))
      ∙ ap (λ z. t.coeff *ℤ (z +ℤ matched us m t.monomial)) (sym (times_one u.coeff))
  | false ↦
      zero_plus _ ∙ row_matched t us m
      ∙ ap (λ z. t.coeff *ℤ z) (sym (zero_plus (matched us m t.monomial)))
      ∙ ap (λ z. t.coeff *ℤ (z +ℤ matched us m t.monomial)) (sym (*ℤ-zero u.coeff))
]

products_matched : (ts us : List Term) (m : List (ℕ × ℕ)) → coefficient (products ts us) m ≡ sum_with (matched us m) ts
products_matched [] us m = refl
products_matched (t ∷ ts) us m =
    coefficient-append m (row t us) (products ts us) ∙ ap (λ z. z +ℤ coefficient (products ts us) m) (row_matched t us m) ∙ ap (λ z. (t.coeff *ℤ matched us m t.monomial) +ℤ z) (products_matched ts us m)

-- products of lists with the same coefficients
pub products-same : (ts ts' us us' : List Term) → IsSum ts ts' → IsSum us us' → IsSum (products ts us) (products ts' us')
products-same ts ts' us us' e f m =
    products_matched ts us m
    ∙ sum_with-same (matched us m) ts ts' e
    ∙ sum_with-each (matched us m) (matched us' m) ts' (λ k. sum_with-same (meets m k) us us' f)
    ∙ sym (products_matched ts' us' m)

pub same_products : (ts us vs : List Term) → IsSum ts us → IsSum (products ts vs) (products us vs)
same_products ts us vs e = products-same ts us vs vs e (λ m. refl)

abbrev pub ArePowers : List Term → Type 0
ArePowers ts = AllByRecursion (λ (t : Term). IsPowers t.monomial) ts

term_times_comm : (t u : Term) → IsPowers t.monomial → IsPowers u.monomial → term_times t u ≡ term_times u t
term_times_comm t u h i = same_term (term_times t u) (term_times u t) (times_comm t.monomial u.monomial h i) (*ℤ_comm t.coeff u.coeff)

-- a product by a list, whose first term is taken out
by_first_factor : (ts us : List Term) (u : Term) → ArePowers ts → IsPowers u.monomial → (m : List (ℕ × ℕ)) → coefficient (products ts (u ∷ us)) m ≡ coefficient (row u ts) m +ℤ coefficient (products ts us) m
by_first_factor [] us u h i m = refl
by_first_factor (t ∷ ts) us u h i m =
    at _ _ _ _ _ _ _ _ (ap (λ (x : Term). if is_of m x then x.coeff else pos 0) (term_times_comm t u h.0 i)) (coefficient-append m (row t us) (products ts (u ∷ us))) (by_first_factor ts us u h.1 i m) (coefficient-append m (row t us) (products ts us))
  where
    at : (a b r x y z w v : ℤ) → a ≡ b → w ≡ r +ℤ x → x ≡ y +ℤ z → v ≡ r +ℤ z → a +ℤ w ≡ (b +ℤ y) +ℤ v
    at a b r x y z w v f g h j = omega (arith, ints, f, g, h, j)

pub products_comm : (ts us : List Term) → ArePowers ts → ArePowers us → IsSum (products ts us) (products us ts)
products_comm ts [] h i m = no_products ts m
  where
    no_products : (ts : List Term) (m : List (ℕ × ℕ)) → coefficient (products ts []) m ≡ pos 0
    no_products [] m = refl
    no_products (x ∷ xs) m = no_products xs m
products_comm ts (u ∷ us) h i m =
    by_first_factor ts us u h i.0 m ∙ ap (λ z. coefficient (row u ts) m +ℤ z) (products_comm ts us h i.1 m) ∙ sym (coefficient-append m (row u ts) (products us ts))

-- monomials and terms associate
times_assoc : (a b c : List (ℕ × ℕ)) → IsPowers a → IsPowers b → IsPowers c → monomial_times (monomial_times a b) c ≡ monomial_times a (monomial_times b c)
times_assoc a b c h i j =
    let ab = IsPowers-times a b h i in
    let bc = IsPowers-times b c i j in
    same_from_exponents _ _ (IsPowers-times _ c ab j) (IsPowers-times a _ h bc) (λ v. omega (arith, exponent-times (monomial_times a b) c v ab j, exponent-times a b v h i, exponent-times a (monomial_times b c) v h bc, exponent-times b c v i j))

row_row : (t u : Term) (vs : List Term) → IsPowers t.monomial → IsPowers u.monomial → ArePowers vs → row (term_times t u) vs ≡ row t (row u vs)
row_row t u [] h i j = refl
row_row t u (v ∷ vs) h i j =
    ap (λ x. x ∷ row (term_times t u) vs) (same_term (term_times (term_times t u) v) (term_times t (term_times u v)) (times_assoc t.monomial u.monomial v.monomial h i j.0) (*ℤ_assoc t.coeff u.coeff v.coeff))
    ∙ ap (λ xs. term_times t (term_times u v) ∷ xs) (row_row t u vs h i j.1)

row-append : (t : Term) (us vs : List Term) → row t (us ++ vs) ≡ row t us ++ row t vs
row-append t [] vs = refl
row-append t (u ∷ us) vs = ap (λ xs. term_times t u ∷ xs) (row-append t us vs)

products_row : (t : Term) (us vs : List Term) → IsPowers t.monomial → ArePowers us → ArePowers vs → products (row t us) vs ≡ row t (products us vs)
products_row t [] vs h i j = refl
products_row t (u ∷ us) vs h i j =
    ap (λ xs. xs ++ products (row t us) vs) (row_row t u vs h i.0 j) ∙ ap (λ xs. row t (row u vs) ++ xs) (products_row t us vs h i.1 j) ∙ sym (row-append t (row u vs) (products us vs))

pub products_assoc : (ts us vs : List Term) → ArePowers ts → ArePowers us → ArePowers vs → products (products ts us) vs ≡ products ts (products us vs)
products_assoc [] us vs h i j = refl
products_assoc (t ∷ ts) us vs h i j =
    signed_products-append false (row t us) (products ts us) vs ∙ ap (λ xs. xs ++ products (products ts us) vs) (products_row t us vs h.0 i j) ∙ ap (λ xs. row t (products us vs) ++ xs) (products_assoc ts us vs h.1 i j)

-- products have powers where their factors have
row_powers : (t : Term) (us : List Term) → IsPowers t.monomial → ArePowers us → ArePowers (row t us)
row_powers t [] h i = tt
row_powers t (u ∷ us) h i = (IsPowers-times t.monomial u.monomial h i.0, row_powers t us h i.1)

both_powers : (ts us : List Term) → ArePowers ts → ArePowers us → ArePowers (ts ++ us)
both_powers [] us h i = i
both_powers (t ∷ ts) us h i = (h.0, both_powers ts us h.1 i)

products_powers : (ts us : List Term) → ArePowers ts → ArePowers us → ArePowers (products ts us)
products_powers [] us h i = tt
products_powers (t ∷ ts) us h i = both_powers (row t us) (products ts us) (row_powers t us h.0 i) (products_powers ts us h.1 i)

-- d is a times n and b is k times n, so d times k is a times b
pub moved_factor : (a b n d k : List Term) → ArePowers a → ArePowers b → ArePowers n → ArePowers k → IsSum d (products a n) → IsSum b (products k n) → IsSum (products d k) (products a b)
moved_factor a b n d k ha hb hn hk e f m =
    same_products d (products a n) k e m
    ∙ ap (λ xs. coefficient xs m) (products_assoc a n k ha hn hk)
    ∙ products_comm a (products n k) ha (products_powers n k hn hk) m
    ∙ same_products (products n k) b a (λ l. products_comm n k hn hk l ∙ sym (f l)) m
    ∙ products_comm b a hb ha m
