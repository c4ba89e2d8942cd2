-- What divides a primitive polynomial in form leaves a primitive one.
use Rattle.std.specs.Prelude.{◌≡◌, ◌≢◌, ℕ, zero, suc, Bool, true, false, if◌then◌else◌, ℤ, pos, negsuc, ◌+ℤ◌, ◌*ℤ◌, ◌<ℤ◌, unsigned_abs, int_div, List, [], ◌∷◌, refl}
use Prim.Native.Nat.{◌∣◌}
use Rattle.std.proofs.Common.{arith, subst, sym, ◌∙◌, ap}
use Rattle.std.proofs.lemmas.Int.{ints, unsigned_abs-mul}
use Rattle.std.proofs.Math.IntN.{*ℤ_comm, *ℤ-zero, pos-*ℤ-negsuc}
use Rattle.std.proofs.Math.Nat.{dvd-mul_right, eq-zero_of_zero-dvd}
use Rattle.std.proofs.lemmas.Nat.Gcd.{dvd-zero}
use Rattle.std.specs.List.{AllByRecursion}
use Rattle.std.specs.Cmp.{tied_itself}
use Rattle.std.specs.declared.cmp.Ordering.TheVariants.{Less}
use Rattle.field_laws.specs.Whole.{*ℤ-+ℤ, is_diff, diffs, same_diff}
use Rattle.monomial.specs.Monomials.{monomial_cmp}
use Rattle.monomial.proofs.Total.{monomial_cmp-IsTotalOrder}
use Rattle.sparse_poly.specs.declared.Term.{Term}
use Rattle.sparse_poly.specs.Polynomials.{is_of, coefficient, term_times, row, products, scaled}
use Rattle.sparse_poly.specs.Contributions.{IsPoly}
use Rattle.sparse_poly.specs.Primitive.{DividesAll, IsPrimitive}
use Rattle.sparse_poly.specs.Clearing.{DividesOpenly, IsInForm}
use Rattle.sparse_poly.proofs.Contents.{exact_quotient}
use Rattle.sparse_poly.proofs.Evaluation.{coefficient-append, is_of-same, is_of-own, zero_plus}
use Rattle.sparse_poly.proofs.OneQuotient.{same_leading, tail_under, nonzero_product}

times_assoc : (a b c : ℤ) → (a *ℤ b) *ℤ c ≡ a *ℤ (b *ℤ c)
times_assoc a b c = rw (is_diff a, is_diff b, is_diff c) (simp diffs (same_diff _ _ _ _ (omega arith)))

-- the product of a multiple is the multiple of the product
scaled_row : (k : ℤ) (t : Term) (us : List Term) (m : List (ℕ × ℕ)) → coefficient (row (record { monomial = t.monomial; coeff = k *ℤ t.coeff }) us) m ≡ k *ℤ coefficient (row t us) m
scaled_row k t [] m = sym (*ℤ-zero k)
scaled_row k t (u ∷ us) m = each (is_of m (term_times t u)) (scaled_row k t us m)
  where
    each : (b : Bool) → coefficient (row (record { monomial = t.monomial; coeff = k *ℤ t.coeff }) us) m ≡ k *ℤ coefficient (row t us) m → (if b then (k *ℤ t.coeff) *ℤ u.coeff else pos 0) +ℤ coefficient (row (record { monomial = t.monomial; coeff = k *ℤ t.coeff }) us) m ≡ k *ℤ ((if b then t.coeff *ℤ u.coeff else pos 0) +ℤ coefficient (row t us) m)
    each true h = ap (λ z. z +ℤ coefficient (row (record { monomial = t.monomial; coeff = k *ℤ t.coeff }) us) m) (times_assoc k t.coeff u.coeff) ∙ ap (λ z. (k *ℤ (t.coeff *ℤ u.coeff)) +ℤ z) h ∙ sym (*ℤ-+ℤ k (t.coeff *ℤ u.coeff) (coefficient (row t us) m))
    each false h = zero_plus _ ∙ h ∙ ap (λ z. k *ℤ z) (sym (zero_plus (coefficient (row t us) m)))

scaled_products : (k : ℤ) (xs us : List Term) (m : List (ℕ × ℕ)) → coefficient (products (scaled k xs) us) m ≡ k *ℤ coefficient (products xs us) m
scaled_products k [] us m = sym (*ℤ-zero k)
scaled_products k (t ∷ ts) us m =
    let s : Term = record { monomial = t.monomial; coeff = k *ℤ t.coeff } in
    coefficient-append m (row s us) (products (scaled k ts) us)
    ∙ ap (λ z. z +ℤ coefficient (products (scaled k ts) us) m) (scaled_row k t us m)
    ∙ ap (λ z. (k *ℤ coefficient (row t us) m) +ℤ z) (scaled_products k ts us m)
    ∙ sym (*ℤ-+ℤ k (coefficient (row t us) m) (coefficient (products ts us) m))
    ∙ ap (λ z. k *ℤ z) (sym (coefficient-append m (row t us) (products ts us)))

-- a polynomial of which a number divides all coefficients is a multiple by it
abbrev over : ℕ → List Term → List Term
over d [] = []
over d (t ∷ ts) = record { monomial = t.monomial; coeff = int_div t.coeff (pos d) } ∷ over d ts

scaled_over : (d : ℕ) (ts : List Term) → pos d ≢ pos 0 → DividesAll d ts → scaled (pos d) (over d ts) ≡ ts
scaled_over d [] z h = refl
scaled_over d (t ∷ ts) z h =
    ap (λ c. (let s : Term = record { monomial = t.monomial; coeff = c } in s) ∷ scaled (pos d) (over d ts)) (exact_quotient t.coeff (pos d) z h.0)
    ∙ ap (λ xs. t ∷ xs) (scaled_over d ts z h.1)

nonzero_divisor : (d : ℕ) (c : ℤ) → c ≢ pos 0 → d ∣ unsigned_abs c → pos d ≢ pos 0
nonzero_divisor zero c n h = absurd (n (size c (eq-zero_of_zero-dvd h)))
  where
    size : (c : ℤ) → unsigned_abs c ≡ 0 → c ≡ pos 0
    size c e = omega (arith, ints, e)
nonzero_divisor (suc d) c n h = λ e. omega (arith, ints, e)

divides_products : (d : ℕ) (t : Term) (ts us : List Term) → t.coeff ≢ pos 0 → DividesAll d (t ∷ ts) → (m : List (ℕ × ℕ)) → d ∣ unsigned_abs (coefficient (products (t ∷ ts) us) m)
divides_products d t ts us n h m =
    let same : coefficient (products (t ∷ ts) us) m ≡ pos d *ℤ coefficient (products (over d (t ∷ ts)) us) m =
    ap (λ xs. coefficient (products xs us) m) (sym (scaled_over d (t ∷ ts) (nonzero_divisor d t.coeff n h.0) h)) ∙ scaled_products (pos d) (over d (t ∷ ts)) us m in
    subst (λ k. d ∣ k) (sym (ap unsigned_abs same ∙ unsigned_abs-mul (pos d) (coefficient (products (over d (t ∷ ts)) us) m))) (dvd-mul_right d (unsigned_abs (coefficient (products (over d (t ∷ ts)) us) m)))

-- a number that divides the sums of all coefficients divides each
none_under : (m : List (ℕ × ℕ)) (ts : List Term) → AllByRecursion (λ (u : Term). monomial_cmp u.monomial m ≡ Less) ts → coefficient ts m ≡ pos 0
none_under m [] h = refl
none_under m (u ∷ us) h = each (is_of m u) refl (none_under m us h.1)
  where
    each : (b : Bool) → is_of m u ≡ b → coefficient us m ≡ pos 0 → (if b then u.coeff else pos 0) +ℤ coefficient us m ≡ pos 0
    each true e r = cc (sym h.0 ∙ ap (λ k. monomial_cmp k m) (sym (is_of-same m u e)) ∙ tied_itself monomial_cmp-IsTotalOrder m)
    each false e r = zero_plus _ ∙ r

divides_each : (d : ℕ) (p : List Term) → IsPoly p → ((m : List (ℕ × ℕ)) → d ∣ unsigned_abs (coefficient p m)) → DividesAll d p
divides_each d [] h all = tt
divides_each d (t ∷ ts) h all = (subst (λ c. d ∣ unsigned_abs c) own (all t.monomial), divides_each d ts (rest h) (λ m. each m (is_of m t) refl))
  where
    rest : IsPoly (t ∷ ts) → IsPoly ts
    rest h = record { falling = h.falling.1; monomials = h.monomials.1; apart = h.apart.1; in_range = h.in_range.1 }

    plus_zero : (z : ℤ) → z +ℤ pos 0 ≡ z
    plus_zero z = omega (arith, ints)

    own : coefficient (t ∷ ts) t.monomial ≡ t.coeff
    own = ap (λ b. (if b then t.coeff else pos 0) +ℤ coefficient ts t.monomial) (is_of-own t) ∙ ap (λ z. t.coeff +ℤ z) (none_under t.monomial ts h.falling.0) ∙ plus_zero t.coeff

    each : (m : List (ℕ × ℕ)) (b : Bool) → is_of m t ≡ b → d ∣ unsigned_abs (coefficient ts m)
    each m true e = subst (λ z. d ∣ unsigned_abs z) (sym (ap (coefficient ts) (is_of-same m t e) ∙ none_under t.monomial ts h.falling.0)) (dvd-zero d)
    each m false e = subst (λ z. d ∣ unsigned_abs z) (ap (λ b. (if b then t.coeff else pos 0) +ℤ coefficient ts m) e ∙ zero_plus (coefficient ts m)) (all m)

positive_factor : (c y : ℤ) → pos 0 <ℤ c → pos 0 <ℤ (c *ℤ y) → pos 0 <ℤ y
positive_factor (pos m) (pos zero) h g = absurd (omega (arith, ints, subst (λ z. pos 0 <ℤ z) (*ℤ-zero (pos m)) g))
positive_factor (pos m) (pos (suc n)) h g = omega (arith, ints)
positive_factor (pos m) (negsuc n) h g = absurd (omega (arith, ints, subst (λ z. pos 0 <ℤ z) (pos-*ℤ-negsuc m n) g))
positive_factor (negsuc m) y h g = absurd (omega (arith, ints, h))

pub primitive_quotient : (n p h : List Term) → IsInForm n → (p ≡ [] → ⊥) → IsPrimitive p → DividesOpenly n p h → IsPrimitive h
primitive_quotient [] p h i z q d = absurd (i.varied refl)
primitive_quotient (u ∷ us) [] h i z q d = absurd (z refl)
primitive_quotient (u ∷ us) (t ∷ ts) [] i z q d = tt
primitive_quotient (u ∷ us) (t ∷ ts) (a ∷ as') i z q d =
    let n = i.poly in
    let h = d.poly in
    let p = d.product.poly in
    let lead = same_leading t (term_times a u) ts _ p.falling.0 (tail_under a u as' us h.monomials h.falling n.monomials n.falling) p.apart.0 (nonzero_product a.coeff u.coeff h.apart.0 n.apart.0) d.product.sums in (
      positive_factor u.coeff a.coeff i.primitive.0 (subst (λ z. pos 0 <ℤ z) (lead.1 ∙ *ℤ_comm a.coeff u.coeff) q.0),
      λ e all. q.1 e (divides_each e (t ∷ ts) p (λ m. subst (λ c. e ∣ unsigned_abs c) (sym (d.product.sums m)) (divides_products e a as' (u ∷ us) h.apart.0 all m))),
    )
