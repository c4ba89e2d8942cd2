-- Stripped polynomials: what strip gives, that there is one rest, and what units are.
use Rattle.std.specs.Prelude.{◌≡◌, ◌≢◌, ◌<◌, ◌≤◌, ℕ, ◌⊎◌, ◌==◌, Bool, true, false, nat_lt, IsTrue, ℤ, pos, ◌*ℤ◌, List, [], ◌∷◌, refl}
use mathlib.Core.Logic.{inl, inr}
use Rattle.std.proofs.Common.{arith, sym, ◌∙◌, ap, subst}
use Rattle.std.proofs.lemmas.Bool.Decides.{nat_tests, eqb_tells}
use Rattle.std.proofs.Math.IntN.{*ℤ-zero}
use Rattle.std.specs.List.{AllByRecursion, Contains}
use Rattle.std.specs.declared.cmp.Ordering.TheVariants.{Less}
use Rattle.monomial.specs.Monomials.{exponent, monomial_cmp, monomial_times, IsPowers, IsMonomial}
use Rattle.monomial.proofs.Exponents.{exponent-times, exponent_there, same_from_exponents}
use Rattle.monomial.proofs.Lower.{monomial_cmp-times}
use Rattle.sparse_poly.specs.declared.Term.{Term}
use Rattle.sparse_poly.specs.Polynomials.{coefficient, row, products, scaled, constant, variable}
use Rattle.sparse_poly.specs.Contributions.{IsFalling, IsPoly}
use Rattle.sparse_poly.specs.Primitive.{IsPrimitivePart}
use Rattle.sparse_poly.specs.Standing.{AllMonomials}
use Rattle.sparse_poly.specs.Factors.{HasLeadingSign, IsContent, IsUnitMonomial, IsQuotient}
use Rattle.sparse_poly.specs.Units.{IsStripped, IsOneOrMember}
use Rattle.sparse_poly.specs.OrderLaws.{same_term}
use Rattle.sparse_poly.proofs.Same.{same_falling}
use Rattle.sparse_poly.proofs.PrimitiveParts.{same_primitive, cancel_factor}
use Rattle.sparse_poly.proofs.Contents.{content_nonzero, IsPoly-quotient, IsPrimitive-quotient}
use Rattle.std.proofs.lemmas.List.{append-nil}

-- the product of one term with a polynomial
pub products-one : (t : Term) (us : List Term) → products (t ∷ []) us ≡ row t us
products-one t us = append-nil (row t us)

pub no_row : (t : Term) (us : List Term) → row t us ≡ [] → us ≡ []
no_row t [] e = refl
no_row t (u ∷ us) e = absurd (cc e)

-- the primitive part of a quotient by the content
scaled-row : (m : List (ℕ × ℕ)) (c : ℤ) (us : List Term) → m ≡ [] → scaled c us ≡ row (record { monomial = m; coeff = c }) us
scaled-row m c [] e = refl
scaled-row m c (u ∷ us) e = ap (λ ts. (let t : Term = record { monomial = u.monomial; coeff = c *ℤ u.coeff } in t) ∷ ts) (scaled-row m c us e) ∙ ap (λ n. (let t : Term = record { monomial = n; coeff = c *ℤ u.coeff } in t) ∷ row (record { monomial = m; coeff = c }) us) (ap (λ k. monomial_times k u.monomial) (sym e))

pub IsPrimitivePart-quotient : (ts : List Term) (m : List (ℕ × ℕ)) (c : ℤ) (qs : List Term) → m ≡ [] → IsContent ts c → IsQuotient ts (record { monomial = m; coeff = c }) qs → IsPrimitivePart ts qs
IsPrimitivePart-quotient ts m c qs e h q = record {
  primitive = IsPrimitive-quotient ts (record { monomial = m; coeff = c }) qs h q.product;
  content = c;
  nonzero = content_nonzero ts c h.sign;
  product = scaled-row m c qs e ∙ q.product;
}

pub IsPoly-primitive : (ts : List Term) (m : List (ℕ × ℕ)) (c : ℤ) (qs : List Term) → m ≡ [] → IsPoly ts → IsContent ts c → IsQuotient ts (record { monomial = m; coeff = c }) qs → IsPoly qs
IsPoly-primitive ts m c qs e p h q = IsPoly-quotient ts (record { monomial = m; coeff = c }) qs p (subst IsPowers (sym e) tt) (content_nonzero ts c h.sign) q

-- what strip gives
pub IsPoly-factor : (ts : List Term) (g : List (ℕ × ℕ)) (c : ℤ) → IsMonomial g → IsContent ts c → IsPoly ((let t : Term = record { monomial = g; coeff = c } in t) ∷ [])
IsPoly-factor ts g c h k = record {
  falling = (tt, tt);
  monomials = (h, tt);
  apart = (content_nonzero ts c k.sign, tt);
  in_range = (k.small, tt);
}

greater_all : (v : ℕ) (t : Term) (us : List Term) → IsPowers t.monomial → AllMonomials us → AllByRecursion (λ (u : Term). 0 < exponent u.monomial v) us → AllByRecursion (λ (u : Term). exponent t.monomial v < exponent u.monomial v) (row t us)
greater_all v t [] g h a = tt
greater_all v t (u ∷ us) g h a =
    let some : 0 < exponent u.monomial v = a.0 in
    (omega (arith, exponent-times t.monomial u.monomial v g h.0.powers), greater_all v t us g h.1 a.1)

pub IsStripped-from : (units : List (List Term)) (ts : List Term) (g : List (ℕ × ℕ)) (c : ℤ) (qs fs : List Term) → IsPoly ts → IsContent ts c → IsUnitMonomial units ts g → IsQuotient ts (record { monomial = g; coeff = c }) qs → fs ≡ (let t : Term = record { monomial = g; coeff = c } in t) ∷ [] → IsStripped units ts fs qs
IsStripped-from units ts g c qs fs p h u q e = subst (λ xs. IsStripped units ts xs qs) (sym e) (record {
  factor_poly = IsPoly-factor ts g c u.monomial h;
  rest_poly = IsPoly-quotient ts by qs p u.monomial.powers (content_nonzero ts c h.sign) q;
  product = λ m. ap (λ us. coefficient us m) (sym (products-one by qs ∙ q.product));
  primitive = IsPrimitive-quotient ts by qs h q.product;
  divided = λ v m a. no_row by qs (q.product ∙ u.greatest v m (subst (λ us. AllByRecursion (λ (t : Term). exponent g v < exponent t.monomial v) us) q.product (greater_all v by qs u.monomial.powers q.monomials a)));
  out = u.members;
  zero_factor = λ z. ap (λ t. t ∷ []) (same_term by (record { monomial = []; coeff = pos 1 }) (u.none z) (one_sign z));
})
  where
    by : Term
    by = record { monomial = g; coeff = c }

    one_sign : ts ≡ [] → c ≡ pos 1
    one_sign z = subst (HasLeadingSign c) z h.sign

-- there is one rest
pub row_falls : (t : Term) (us : List Term) → IsPowers t.monomial → AllMonomials us → IsFalling us → IsFalling (row t us)
row_falls t [] g h f = tt
row_falls t (u ∷ us) g h f = (below t u us g h.0 h.1 f.0, row_falls t us g h.1 f.1)
  where
    below : (t u : Term) (us : List Term) → IsPowers t.monomial → IsMonomial u.monomial → AllMonomials us → AllByRecursion (λ (v : Term). monomial_cmp v.monomial u.monomial ≡ Less) us → AllByRecursion (λ (v : Term). monomial_cmp v.monomial (monomial_times t.monomial u.monomial) ≡ Less) (row t us)
    below t u [] g h i a = tt
    below t u (v ∷ vs) g h i a = (monomial_cmp-times t.monomial v.monomial u.monomial g i.0.powers h.powers a.0, below t u vs g h i.1 a.1)

pub row_apart : (t : Term) (us : List Term) → t.coeff ≢ pos 0 → AllByRecursion (λ (v : Term). v.coeff ≢ pos 0) us → AllByRecursion (λ (v : Term). v.coeff ≢ pos 0) (row t us)
row_apart t [] n a = tt
row_apart t (u ∷ us) n a = (λ z. a.0 (cancel_factor t.coeff u.coeff (pos 0) n (z ∙ sym (*ℤ-zero t.coeff))), row_apart t us n a.1)

pub row_of_stripped : (units : List (List Term)) (p : List Term) (t : Term) (r : List Term) → IsPoly p → IsStripped units p (t ∷ []) r → row t r ≡ p
row_of_stripped units p t r h s =
    same_falling (row t r) p (row_falls t r s.factor_poly.monomials.0.powers s.rest_poly.monomials s.rest_poly.falling) (row_apart t r s.factor_poly.apart.0 s.rest_poly.apart) h.falling h.apart
    (λ m. ap (λ us. coefficient us m) (sym (products-one t r)) ∙ sym (s.product m))

-- a variable of a monomial in units is a unit
member_of : (units : List (List Term)) (m : List (ℕ × ℕ)) (v : ℕ) → AllByRecursion (λ (q : ℕ × ℕ). Contains units (variable q.0)) m → 0 < exponent m v → Contains units (variable v)
member_of units [] v h l = absurd (omega arith)
member_of units (q ∷ qs) v h l = either (λ k. member_of units qs v h.1 k) (eqb_tells q.0 v)
  where
    either : (0 < exponent qs v → Contains units (variable v)) → ((q.0 == v ≡ true) × (q.0 ≡ v)) ⊎ ((q.0 == v ≡ false) × (q.0 ≢ v)) → Contains units (variable v)
    either rest (inl (t, g)) = subst (λ u. Contains units (variable u)) g h.0
    either rest (inr (t, n)) = rest (omega (arith, l, exponent_there q qs v n))

pub rows_first : (t t' u u' : Term) (us us' : List Term) → row t (u ∷ us) ≡ row t' (u' ∷ us') → (monomial_times t.monomial u.monomial ≡ monomial_times t'.monomial u'.monomial) × (t.coeff *ℤ u.coeff ≡ t'.coeff *ℤ u'.coeff) × (row t us ≡ row t' us')
rows_first t t' u u' us us' e =
    let a : Term = record { monomial = monomial_times t.monomial u.monomial; coeff = t.coeff *ℤ u.coeff } in
    let b : Term = record { monomial = monomial_times t'.monomial u'.monomial; coeff = t'.coeff *ℤ u'.coeff } in
    let h : a ≡ b = cc e in
    let rest : row t us ≡ row t' us' = cc e in
    (ap (λ (x : Term). x.monomial) h, ap (λ (x : Term). x.coeff) h, rest)

positive_all : (v : ℕ) (t t' : Term) (us us' : List Term) → IsPowers t.monomial → IsPowers t'.monomial → AllMonomials us → AllMonomials us' → exponent t'.monomial v < exponent t.monomial v → row t us ≡ row t' us' → AllByRecursion (λ (u : Term). 0 < exponent u.monomial v) us'
positive_all v t t' [] [] g g' h h' l e = tt
positive_all v t t' [] (u' ∷ us') g g' h h' l e = absurd (cc e)
positive_all v t t' (u ∷ us) [] g g' h h' l e = tt
positive_all v t t' (u ∷ us) (u' ∷ us') g g' h h' l e =
    let f = rows_first t t' u u' us us' e in
    (omega (arith, l, ap (λ m. exponent m v) f.0, exponent-times t.monomial u.monomial v g h.0.powers, exponent-times t'.monomial u'.monomial v g' h'.0.powers), positive_all v t t' us us' g g' h.1 h'.1 l f.2)

no_more : (units : List (List Term)) (p : List Term) (t t' : Term) (r r' : List Term) → IsStripped units p (t ∷ []) r → IsStripped units p (t' ∷ []) r' → row t r ≡ row t' r' → (r' ≡ [] → ⊥) → (v : ℕ) → exponent t.monomial v ≤ exponent t'.monomial v
no_more units p t t' r r' s s' e n v =
    elim (nat_lt (exponent t'.monomial v) (exponent t.monomial v)) as (λ b. nat_lt (exponent t'.monomial v) (exponent t.monomial v) ≡ b → exponent t.monomial v ≤ exponent t'.monomial v) [
      | true ↦ λ f. absurd (n (s'.divided v (member_of units t.monomial v s.out (positive (exponent t'.monomial v) (exponent t.monomial v) f)) (positive_all v t t' r r' s.factor_poly.monomials.0.powers s'.factor_poly.monomials.0.powers s.rest_poly.monomials s'.rest_poly.monomials (less (exponent t'.monomial v) (exponent t.monomial v) f) e)))
      | false ↦ λ f. not_less (exponent t'.monomial v) (exponent t.monomial v) f
    ] refl
  where
    less : (a b : ℕ) → nat_lt a b ≡ true → a < b
    less a b f = grind (arith, nat_tests)

    positive : (a b : ℕ) → nat_lt a b ≡ true → 0 < b
    positive a b f = grind (arith, nat_tests)

    not_less : (a b : ℕ) → nat_lt a b ≡ false → b ≤ a
    not_less a b f = grind (arith, nat_tests)

-- what is left of one monomial
pub monomial_cancel : (g m n : List (ℕ × ℕ)) → IsPowers g → IsPowers m → IsPowers n → monomial_times g m ≡ monomial_times g n → m ≡ n
monomial_cancel g m n h i j e =
    same_from_exponents m n i j (λ v. omega (arith, ap (λ k. exponent k v) e, exponent-times g m v h i, exponent-times g n v h j))

scaled_rows : (g : List (ℕ × ℕ)) (c d : ℤ) (us us' : List Term) → IsPowers g → AllMonomials us → AllMonomials us' → row (record { monomial = g; coeff = c }) us ≡ row (record { monomial = g; coeff = d }) us' → scaled c us ≡ scaled d us'
scaled_rows g c d [] [] h i j e = refl
scaled_rows g c d [] (u' ∷ us') h i j e = absurd (cc e)
scaled_rows g c d (u ∷ us) [] h i j e = absurd (cc e)
scaled_rows g c d (u ∷ us) (u' ∷ us') h i j e =
    let f = rows_first (record { monomial = g; coeff = c }) (record { monomial = g; coeff = d }) u u' us us' e in
    let one = monomial_cancel g u.monomial u'.monomial h i.0.powers j.0.powers f.0 in
    ap (λ t. t ∷ scaled c us) (same_term (record { monomial = u.monomial; coeff = c *ℤ u.coeff }) (record { monomial = u'.monomial; coeff = d *ℤ u'.coeff }) one f.1)
    ∙ ap (λ ts. (let t : Term = record { monomial = u'.monomial; coeff = d *ℤ u'.coeff } in t) ∷ ts) (scaled_rows g c d us us' h i.1 j.1 f.2)

one_rest_of : (units : List (List Term)) (p : List Term) (t t' : Term) (r r' : List Term) → IsStripped units p (t ∷ []) r → IsStripped units p (t' ∷ []) r' → row t r ≡ row t' r' → r ≡ r'
one_rest_of units p t t' r [] s s' e = no_row t r e
one_rest_of units p t t' [] (u' ∷ us') s s' e = absurd (cc e)
one_rest_of units p t t' (u ∷ us) (u' ∷ us') s s' e =
    let same : t.monomial ≡ t'.monomial = same_from_exponents t.monomial t'.monomial s.factor_poly.monomials.0.powers s'.factor_poly.monomials.0.powers (λ v. equal _ _ (no_more units p t t' (u ∷ us) (u' ∷ us') s s' e (λ z. cc z) v) (no_more units p t' t (u' ∷ us') (u ∷ us) s' s (sym e) (λ z. cc z) v)) in
    let rows : row t (u ∷ us) ≡ row (record { monomial = t.monomial; coeff = t'.coeff }) (u' ∷ us') = e ∙ ap (λ m. row (record { monomial = m; coeff = t'.coeff }) (u' ∷ us')) (sym same) in
    same_primitive t.coeff t'.coeff (u ∷ us) (u' ∷ us') s.factor_poly.apart.0 s.primitive s'.primitive (scaled_rows t.monomial t.coeff t'.coeff (u ∷ us) (u' ∷ us') s.factor_poly.monomials.0.powers s.rest_poly.monomials s'.rest_poly.monomials rows)
  where
    equal : (a b : ℕ) → a ≤ b → b ≤ a → a ≡ b
    equal a b h i = omega arith

-- a polynomial has one rest under the units
pub one_rest : (units : List (List Term)) (p f r f' r' : List Term) → IsPoly p → IsStripped units p f r → IsStripped units p f' r' → r ≡ r'
one_rest units p [] r f' r' h s s' = absurd s.out
one_rest units p (t ∷ u ∷ us) r f' r' h s s' = absurd s.out
one_rest units p (t ∷ []) r [] r' h s s' = absurd s'.out
one_rest units p (t ∷ []) r (t' ∷ u' ∷ us') r' h s s' = absurd s'.out
one_rest units p (t ∷ []) r (t' ∷ []) r' h s s' = one_rest_of units p t t' r r' s s' (row_of_stripped units p t r h s ∙ sym (row_of_stripped units p t' r' h s'))

-- the constant 1 or a member, by tests
pub IsOneOrMember-test : (units : List (List Term)) (r : List Term) (b : Bool) → (IsTrue b → Contains units r) × (Contains units r → IsTrue b) → (r ≡ constant (pos 1) → ⊥) → (IsTrue b → IsOneOrMember units r) × (IsOneOrMember units r → IsTrue b)
IsOneOrMember-test units r b e n = (λ t. inr (e.0 t), λ m. either m)
  where
    either : IsOneOrMember units r → IsTrue b
    either (inl o) = absurd (n o)
    either (inr m) = e.1 m
