-- The degree in a variable of a product is the sum of those of its factors, so that of a divisor is not above that of a polynomial.
use Rattle.std.specs.Prelude.{◌≡◌, ◌≢◌, ◌<◌, ◌≤◌, ℕ, zero, suc, ◌+◌, ◌==◌, ◌⊎◌, true, false, if◌then◌else◌, length, slice_index_or, max, pos, ◌+ℤ◌, ◌*ℤ◌, List, [], ◌∷◌, refl}
use mathlib.Core.Logic.{inl, inr}
use Rattle.std.proofs.Common.{arith, sym, ◌∙◌, ap, subst}
use Rattle.std.proofs.lemmas.Bool.{cases_lt, true≢false}
use Rattle.std.proofs.lemmas.Bool.Decides.{eqb_tells}
use Rattle.std.specs.List.{AllByRecursion}
use Rattle.std.specs.declared.cmp.Ordering.TheVariants.{Less}
use Rattle.monomial.specs.Monomials.{exponent, monomial_cmp, monomial_times, IsBelow, IsMonomial, IsPowers}
use Rattle.monomial.proofs.Exponents.{exponent_here, exponent_there, exponent-times}
use Rattle.sparse_poly.specs.declared.Term.{Term}
use Rattle.sparse_poly.specs.Polynomials.{is_of, coefficient, term_times, row, products, IsSum}
use Rattle.sparse_poly.specs.Contributions.{IsFalling, IsPoly}
use Rattle.sparse_poly.specs.Standing.{AllMonomials}
use Rattle.sparse_poly.specs.Reads.{degree_in}
use Rattle.sparse_poly.specs.Clearing.{DividesOpenly}
use Rattle.sparse_poly.specs.Dividing.{IsAboveDegree}
use Rattle.sparse_poly.proofs.Evaluation.{is_of-same, zero_plus, coefficient-append}
use Rattle.sparse_poly.proofs.Same.{coefficient_leading}
use Rattle.sparse_poly.proofs.OneQuotient.{nonzero_product, tail_under}

told_same : (a b : ℕ) → a == b ≡ true → a ≡ b
told_same a b e = each (eqb_tells a b)
  where
    each : ((a == b ≡ true) × (a ≡ b)) ⊎ ((a == b ≡ false) × (a ≢ b)) → a ≡ b
    each (inl (i, s)) = s
    each (inr (i, n)) = absurd (true≢false (sym e ∙ i))

told_apart : (a b : ℕ) → a == b ≡ false → a ≢ b
told_apart a b e = each (eqb_tells a b)
  where
    each : ((a == b ≡ true) × (a ≡ b)) ⊎ ((a == b ≡ false) × (a ≢ b)) → a ≢ b
    each (inl (i, s)) = absurd (true≢false (sym i ∙ e))
    each (inr (i, n)) = n

told_below : (a b : ℕ) → a == b ≡ false → a ≤ b → a < b
told_below a b e l = omega (arith, l, told_apart a b e)

-- the terms in which v has the exponent d
abbrev of_degree : ℕ → ℕ → List Term → List Term
of_degree v d [] = []
of_degree v d (t ∷ ts) = if exponent t.monomial v == d then t ∷ of_degree v d ts else of_degree v d ts

all_of : (P : Term → Type 0) (v d : ℕ) (ts : List Term) → AllByRecursion P ts → AllByRecursion P (of_degree v d ts)
all_of P v d [] h = tt
all_of P v d (t ∷ ts) h = elim (exponent t.monomial v == d) as (λ b. AllByRecursion P (if b then t ∷ of_degree v d ts else of_degree v d ts)) [
  | true ↦ (h.0, all_of P v d ts h.1)
  | false ↦ all_of P v d ts h.1
]

falling_of : (v d : ℕ) (ts : List Term) → IsFalling ts → IsFalling (of_degree v d ts)
falling_of v d [] h = tt
falling_of v d (t ∷ ts) h = elim (exponent t.monomial v == d) as (λ b. IsFalling (if b then t ∷ of_degree v d ts else of_degree v d ts)) [
  | true ↦ (all_of (λ (u : Term). monomial_cmp u.monomial t.monomial ≡ Less) v d ts h.0, falling_of v d ts h.1)
  | false ↦ falling_of v d ts h.1
]

own_exponents : (v d : ℕ) (ts : List Term) → AllByRecursion (λ (t : Term). exponent t.monomial v ≡ d) (of_degree v d ts)
own_exponents v d [] = tt
own_exponents v d (t ∷ ts) = elim (exponent t.monomial v == d) as (λ b. (exponent t.monomial v == d) ≡ b → AllByRecursion (λ (t : Term). exponent t.monomial v ≡ d) (if b then t ∷ of_degree v d ts else of_degree v d ts)) [
  | true ↦ λ e. (told_same (exponent t.monomial v) d e, own_exponents v d ts)
  | false ↦ λ e. own_exponents v d ts
] refl

-- a term has the degree as its exponent
some_of : (v d : ℕ) (ts : List Term) → degree_in v ts ≡ d → ts ≢ [] → of_degree v d ts ≢ []
some_of v d [] e n = absurd (n refl)
some_of v d (t ∷ ts) e n = elim (exponent t.monomial v == d) as (λ b. (exponent t.monomial v == d) ≡ b → (if b then t ∷ of_degree v d ts else of_degree v d ts) ≢ []) [
  | true ↦ λ i z. cc z
  | false ↦ λ i.
      let other = told_apart (exponent t.monomial v) d i in
      let rest : degree_in v ts ≡ d = max_other (exponent t.monomial v) (degree_in v ts) d e other in
      some_of v d ts rest (λ z. other (max_none (exponent t.monomial v) d (sym (ap (λ us. max (exponent t.monomial v) (degree_in v us)) z) ∙ e)))
] refl
  where
    max_other : (a b d : ℕ) → max a b ≡ d → a ≢ d → b ≡ d
    max_other a b d e n = each (cases_lt a b)
      where
        each : (a < b) ⊎ (b ≤ a) → b ≡ d
        each (inl l) = omega (arith, e, l)
        each (inr l) = absurd (n (omega (arith, e, l)))

    max_none : (a d : ℕ) → max a 0 ≡ d → a ≡ d
    max_none a d e = omega (arith, e)

module _ (v : ℕ) where
  -- a term with a lower exponent is of another monomial
  other_monomial : (m : List (ℕ × ℕ)) (t : Term) → exponent t.monomial v < exponent m v → is_of m t ≡ false
  other_monomial m t l = elim (is_of m t) as (λ b. is_of m t ≡ b → b ≡ false) [
    | true ↦ λ e. absurd (omega (arith, l, ap (λ n. exponent n v) (is_of-same m t e)))
    | false ↦ λ e. refl
  ] refl

  without_lower : (m : List (ℕ × ℕ)) (t : Term) (ts : List Term) → exponent t.monomial v < exponent m v → coefficient (t ∷ ts) m ≡ coefficient ts m
  without_lower m t ts l = ap (λ b. (if b then t.coeff else pos 0) +ℤ coefficient ts m) (other_monomial m t l) ∙ zero_plus (coefficient ts m)

  none_above : (m : List (ℕ × ℕ)) (ts : List Term) → degree_in v ts < exponent m v → coefficient ts m ≡ pos 0
  none_above m [] l = refl
  none_above m (t ∷ ts) l = without_lower m t ts (omega (arith, l)) ∙ none_above m ts (omega (arith, l))

  low_row : (m : List (ℕ × ℕ)) (t : Term) (us : List Term) → IsPowers t.monomial → AllMonomials us → exponent t.monomial v + degree_in v us < exponent m v → coefficient (row t us) m ≡ pos 0
  low_row m t [] h i l = refl
  low_row m t (u ∷ us) h i l =
      let apart : exponent (monomial_times t.monomial u.monomial) v < exponent m v = omega (arith, l, exponent-times t.monomial u.monomial v h i.0.powers) in
      without_lower m (term_times t u) (row t us) apart ∙ low_row m t us h i.1 (omega (arith, l))

  -- at a monomial with the greatest exponent that a product may have, only the terms of the greatest exponents meet
  row_of : (m : List (ℕ × ℕ)) (t : Term) (us : List Term) (b : ℕ) → IsPowers t.monomial → AllMonomials us → degree_in v us ≤ b → exponent t.monomial v + b ≡ exponent m v → coefficient (row t us) m ≡ coefficient (row t (of_degree v b us)) m
  row_of m t [] b h i l e = refl
  row_of m t (u ∷ us) b h i l e = elim (exponent u.monomial v == b) as (λ c. (exponent u.monomial v == b) ≡ c → coefficient (row t (u ∷ us)) m ≡ coefficient (row t (if c then u ∷ of_degree v b us else of_degree v b us)) m) [
    | true ↦ λ s. ap (λ z. (if is_of m (term_times t u) then t.coeff *ℤ u.coeff else pos 0) +ℤ z) (row_of m t us b h i.1 (omega (arith, l)) e)
    | false ↦ λ s.
        let lower : exponent u.monomial v < b = told_below (exponent u.monomial v) b s (omega (arith, l)) in
        let apart : exponent (monomial_times t.monomial u.monomial) v < exponent m v = omega (arith, lower, e, exponent-times t.monomial u.monomial v h i.0.powers) in
        without_lower m (term_times t u) (row t us) apart ∙ row_of m t us b h i.1 (omega (arith, l)) e
  ] refl

  products_of : (m : List (ℕ × ℕ)) (ts us : List Term) (a b : ℕ) → AllMonomials ts → AllMonomials us → degree_in v ts ≤ a → degree_in v us ≤ b → a + b ≡ exponent m v → coefficient (products ts us) m ≡ coefficient (products (of_degree v a ts) (of_degree v b us)) m
  products_of m [] us a b h i k l e = refl
  products_of m (t ∷ ts) us a b h i k l e =
      let rest = products_of m ts us a b h.1 i (omega (arith, k)) l e in
      elim (exponent t.monomial v == a) as (λ c. (exponent t.monomial v == a) ≡ c → coefficient (products (t ∷ ts) us) m ≡ coefficient (products (if c then t ∷ of_degree v a ts else of_degree v a ts) (of_degree v b us)) m) [
        | true ↦ λ s.
            let same : exponent t.monomial v ≡ a = told_same (exponent t.monomial v) a s in
            coefficient-append m (row t us) (products ts us)
            ∙ ap (λ z. z +ℤ coefficient (products ts us) m) (row_of m t us b h.0.powers i l (omega (arith, same, e)))
            ∙ ap (λ z. coefficient (row t (of_degree v b us)) m +ℤ z) rest
            ∙ sym (coefficient-append m (row t (of_degree v b us)) (products (of_degree v a ts) (of_degree v b us)))
        | false ↦ λ s.
            let lower : exponent t.monomial v < a = told_below (exponent t.monomial v) a s (omega (arith, k)) in
            coefficient-append m (row t us) (products ts us)
            ∙ ap (λ z. z +ℤ coefficient (products ts us) m) (low_row m t us h.0.powers i (omega (arith, lower, l, e)))
            ∙ zero_plus (coefficient (products ts us) m) ∙ rest
      ] refl

  module _ (g n p : List Term) (hg : IsPoly g) (hn : IsPoly n) (e : IsSum p (products g n)) where
    degrees_meet : (xs us : List Term) → of_degree v (degree_in v g) g ≡ xs → of_degree v (degree_in v n) n ≡ us → xs ≢ [] → us ≢ [] → degree_in v p < degree_in v g + degree_in v n → ⊥
    degrees_meet [] us k l i j low = i refl
    degrees_meet (x ∷ xs) [] k l i j low = j refl
    degrees_meet (x ∷ xs) (u ∷ us) k l i j low =
        let xm : AllMonomials (x ∷ xs) = subst AllMonomials k (all_of (λ (t : Term). IsMonomial t.monomial) v (degree_in v g) g hg.monomials) in
        let um : AllMonomials (u ∷ us) = subst AllMonomials l (all_of (λ (t : Term). IsMonomial t.monomial) v (degree_in v n) n hn.monomials) in
        let xf : IsFalling (x ∷ xs) = subst IsFalling k (falling_of v (degree_in v g) g hg.falling) in
        let uf : IsFalling (u ∷ us) = subst IsFalling l (falling_of v (degree_in v n) n hn.falling) in
        let xa = subst (AllByRecursion (λ (t : Term). t.coeff ≢ pos 0)) k (all_of (λ (t : Term). t.coeff ≢ pos 0) v (degree_in v g) g hg.apart) in
        let ua = subst (AllByRecursion (λ (t : Term). t.coeff ≢ pos 0)) l (all_of (λ (t : Term). t.coeff ≢ pos 0) v (degree_in v n) n hn.apart) in
        let xe = subst (AllByRecursion (λ (t : Term). exponent t.monomial v ≡ degree_in v g)) k (own_exponents v (degree_in v g) g) in
        let ue = subst (AllByRecursion (λ (t : Term). exponent t.monomial v ≡ degree_in v n)) l (own_exponents v (degree_in v n) n) in
        let m : List (ℕ × ℕ) = monomial_times x.monomial u.monomial in
        let whole : degree_in v g + degree_in v n ≡ exponent m v = omega (arith, exponent-times x.monomial u.monomial v xm.0.powers um.0.powers, xe.0, ue.0) in
        nonzero_product x.coeff u.coeff xa.0 ua.0 (
        sym (coefficient_leading (term_times x u) _ (tail_under x u xs us xm xf um uf))
        ∙ sym (ap (λ ts. coefficient (products ts (u ∷ us)) m) k) ∙ sym (ap (λ ts. coefficient (products (of_degree v (degree_in v g) g) ts) m) l)
        ∙ sym (products_of m g n (degree_in v g) (degree_in v n) hg.monomials hn.monomials (omega arith) (omega arith) whole)
        ∙ sym (e m) ∙ none_above m p (omega (arith, low, whole))
        )

    degree_within : g ≢ [] → n ≢ [] → degree_in v n ≤ degree_in v p
    degree_within i j = each (cases_lt (degree_in v p) (degree_in v n))
      where
        each : (degree_in v p < degree_in v n) ⊎ (degree_in v n ≤ degree_in v p) → degree_in v n ≤ degree_in v p
        each (inl l) = absurd (degrees_meet (of_degree v (degree_in v g) g) (of_degree v (degree_in v n) n) refl refl (some_of v (degree_in v g) g refl i) (some_of v (degree_in v n) n refl j) (omega (arith, l)))
        each (inr l) = l

-- a divisor that is not zero has no degree above that of a polynomial that is not zero
pub divisor_degree : (v : ℕ) (n p g : List Term) → IsPoly n → IsPoly p → n ≢ [] → p ≢ [] → DividesOpenly n p g → degree_in v n ≤ degree_in v p
divisor_degree v n [] g hn hp i j d = absurd (j refl)
divisor_degree v n (t ∷ ts) [] hn hp i j d = absurd (hp.apart.0 (sym (coefficient_leading t ts hp.falling.0) ∙ d.product.sums t.monomial))
divisor_degree v n (t ∷ ts) (x ∷ xs) hn hp i j d = degree_within v (x ∷ xs) n (t ∷ ts) d.poly hn d.product.sums (λ z. cc z) i

-- the power at a place of a monomial
own_exponent : (m : List (ℕ × ℕ)) (k : ℕ) → IsPowers m → k < length m → exponent m (slice_index_or m k (0, 0)).0 ≡ (slice_index_or m k (0, 0)).1
own_exponent [] k h l = absurd (omega (arith, l))
own_exponent (q ∷ qs) zero h l = exponent_here q qs q.0 refl
own_exponent (q ∷ qs) (suc k) h l =
    let lower : (slice_index_or qs k (0, 0)).0 < q.0 = below_at q.0 qs k h.1 (omega (arith, l)) in
    exponent_there q qs (slice_index_or qs k (0, 0)).0 (λ e. omega (arith, lower, e)) ∙ own_exponent qs k h.2 (omega (arith, l))
  where
    below_at : (v : ℕ) (ps : List (ℕ × ℕ)) (k : ℕ) → IsBelow v ps → k < length ps → (slice_index_or ps k (0, 0)).0 < v
    below_at v [] k h l = absurd (omega (arith, l))
    below_at v (p ∷ ps) zero h l = h.0
    below_at v (p ∷ ps) (suc k) h l = below_at v ps k h.1 (omega (arith, l))

pub above_at : (m : List (ℕ × ℕ)) (p : List Term) (k : ℕ) → IsPowers m → k < length m → degree_in (slice_index_or m k (0, 0)).0 p < (slice_index_or m k (0, 0)).1 → IsAboveDegree m p
above_at m p k h l d = record { variable = (slice_index_or m k (0, 0)).0; above = omega (arith, d, own_exponent m k h l) }

-- an exponent at a place is not above the degree
place_within : (v k : ℕ) (ts : List Term) (d : Term) → k < length ts → exponent (slice_index_or ts k d).monomial v ≤ degree_in v ts
place_within v k [] d l = absurd (omega (arith, l))
place_within v zero (t ∷ ts) d l = omega arith
place_within v (suc k) (t ∷ ts) d l = let rest = place_within v k ts d (omega (arith, l)) in omega (arith, rest)

-- where a term of a divisor has an exponent above the degree of a polynomial there is no quotient
pub no_degree : (n p : List Term) (k : ℕ) (t : Term) → IsPoly n → IsPoly p → p ≢ [] → k < length n → t ≡ slice_index_or n k t → IsAboveDegree t.monomial p → (g : List Term) → DividesOpenly n p g → ⊥
no_degree [] p k t hn hp j l s a g d = absurd (omega (arith, l))
no_degree (u ∷ us) p k t hn hp j l s a g d =
    let within = divisor_degree a.variable (u ∷ us) p g hn hp (λ z. cc z) j d in
    let place = place_within a.variable k (u ∷ us) t l in
    omega (arith, within, place, ap (λ (x : Term). exponent x.monomial a.variable) s, a.above)
