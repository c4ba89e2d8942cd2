-- The degree in a variable: of sums and products, and of what their coefficients leave.
use Rattle.std.specs.Prelude.{◌≡◌, ◌≢◌, ◌<◌, ◌≤◌, ℕ, ◌+◌, ◌⊎◌, Bool, true, false, if◌then◌else◌, max, pos, ◌+ℤ◌, List, [], ◌∷◌, ◌++◌, leb, refl}
use mathlib.Core.Logic.{inl, inr}
use Rattle.std.proofs.Common.{arith, sym, ◌∙◌, ap, subst}
use Rattle.std.proofs.lemmas.Bool.Decides.{leb_tells}
use Rattle.std.specs.List.{AllByRecursion}
use Rattle.monomial.specs.Monomials.{exponent, IsPowers, IsMonomial}
use Rattle.monomial.proofs.Exponents.{exponent-times}
use Rattle.sparse_poly.specs.declared.Term.{Term}
use Rattle.sparse_poly.specs.Polynomials.{is_of, coefficient, row, products, negated}
use Rattle.sparse_poly.specs.Contributions.{IsFalling, IsPoly}
use Rattle.sparse_poly.specs.Reads.{degree_in}
use Rattle.sparse_poly.specs.Units.{IsStripped}
use Rattle.sparse_poly.proofs.Evaluation.{is_of-same, zero_plus}
use Rattle.sparse_poly.proofs.Same.{coefficient_leading}
use Rattle.sparse_poly.proofs.Strips.{row_of_stripped}

-- the variables of each term fall strictly
abbrev pub AllPowers : List Term → Type 0
AllPowers ts = AllByRecursion (λ (t : Term). IsPowers t.monomial) ts

pub AllPowers-poly : (p : List Term) → IsPoly p → AllPowers p
AllPowers-poly p h = each p h.monomials
  where
    each : (p : List Term) → AllByRecursion (λ (t : Term). IsMonomial t.monomial) p → AllPowers p
    each [] h = tt
    each (t ∷ ts) h = (h.0.powers, each ts h.1)

pub degree_in-append : (w : ℕ) (ts us : List Term) → degree_in w (ts ++ us) ≡ max (degree_in w ts) (degree_in w us)
degree_in-append w [] us = omega arith
degree_in-append w (t ∷ ts) us = let rest = degree_in-append w ts us in omega (arith, rest)

pub degree_in-negated : (w : ℕ) (ts : List Term) → degree_in w (negated ts) ≡ degree_in w ts
degree_in-negated w [] = refl
degree_in-negated w (t ∷ ts) = ap (max (exponent t.monomial w)) (degree_in-negated w ts)

degree_in-row : (w : ℕ) (t : Term) (us : List Term) → IsPowers t.monomial → AllPowers us → degree_in w (row t us) ≤ exponent t.monomial w + degree_in w us
degree_in-row w t [] h i = omega arith
degree_in-row w t (u ∷ us) h i = let rest = degree_in-row w t us h i.1 in let first = exponent-times t.monomial u.monomial w h i.0 in omega (arith, rest, first)

pub degree_in-products : (w : ℕ) (ts us : List Term) → AllPowers ts → AllPowers us → degree_in w (products ts us) ≤ degree_in w ts + degree_in w us
degree_in-products w [] us h i = omega arith
degree_in-products w (t ∷ ts) us h i =
    let first = degree_in-row w t us h.0 i in
    let rest = degree_in-products w ts us h.1 i in
    let both = degree_in-append w (row t us) (products ts us) in
    omega (arith, first, rest, both)

-- a factor of one term, too, has no higher degree than its product
below_row : (w : ℕ) (t : Term) (us : List Term) → IsPowers t.monomial → AllPowers us → degree_in w us ≤ degree_in w (row t us)
below_row w t [] h i = omega arith
below_row w t (u ∷ us) h i = let rest = below_row w t us h i.1 in let first = exponent-times t.monomial u.monomial w h i.0 in omega (arith, rest, first)

pub stripped_below : (w : ℕ) (units : List (List Term)) (p factor rest : List Term) → IsPoly p → IsStripped units p factor rest → degree_in w rest ≤ degree_in w p
stripped_below w units p [] rest h s = absurd s.out
stripped_below w units p (t ∷ u ∷ us) rest h s = absurd s.out
stripped_below w units p (t ∷ []) rest h s = subst (λ x. degree_in w rest ≤ degree_in w x) (row_of_stripped units p t rest h s) (below_row w t rest s.factor_poly.monomials.0.powers (AllPowers-poly rest s.rest_poly))

-- a term of another monomial has no share in the coefficient of m
pub no_share : (w : ℕ) (m : List (ℕ × ℕ)) (t : Term) → exponent t.monomial w < exponent m w → (if is_of m t then t.coeff else pos 0) ≡ pos 0
no_share w m t l = each (is_of m t) refl
  where
    each : (b : Bool) → is_of m t ≡ b → (if b then t.coeff else pos 0) ≡ pos 0
    each false e = refl
    each true e = let same : exponent m w ≡ exponent t.monomial w = ap (λ x. exponent x w) (is_of-same m t e) in absurd (omega (arith, same))

-- above the degree of contributions all coefficients are 0
pub coefficient_beyond : (w : ℕ) (cs : List Term) (m : List (ℕ × ℕ)) → degree_in w cs < exponent m w → coefficient cs m ≡ pos 0
coefficient_beyond w [] m l = refl
coefficient_beyond w (t ∷ ts) m l = ap (λ z. z +ℤ coefficient ts m) (no_share w m t (omega arith)) ∙ zero_plus _ ∙ coefficient_beyond w ts m (omega arith)

-- a polynomial whose coefficients are 0 from a degree on is of lower degree
pub degree_in-below : (w n : ℕ) (p : List Term) → IsFalling p → AllByRecursion (λ (t : Term). t.coeff ≢ pos 0) p → 0 < n → ((m : List (ℕ × ℕ)) → n ≤ exponent m w → coefficient p m ≡ pos 0) → degree_in w p < n
degree_in-below w n [] f a some h = some
degree_in-below w n (t ∷ ts) f a some h =
    let first : exponent t.monomial w < n = here (leb_tells n (exponent t.monomial w)) in
    let others : (m : List (ℕ × ℕ)) → n ≤ exponent m w → coefficient ts m ≡ pos 0 = λ m l. sym (zero_plus _) ∙ ap (λ z. z +ℤ coefficient ts m) (sym (no_share w m t (omega arith))) ∙ h m l in
    let rest = degree_in-below w n ts f.1 a.1 some others in
    omega (arith, first, rest)
  where
    here : ((leb n (exponent t.monomial w) ≡ true) × (n ≤ exponent t.monomial w)) ⊎ ((leb n (exponent t.monomial w) ≡ false) × (exponent t.monomial w < n)) → exponent t.monomial w < n
    here (inl (b, l)) = absurd (a.0 (sym (coefficient_leading t ts f.0) ∙ h t.monomial l))
    here (inr (b, l)) = l
