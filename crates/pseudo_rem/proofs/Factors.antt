-- The factor of an initial has no variable that is not below the main one.
use Rattle.std.specs.Prelude.{◌≡◌, ◌≢◌, ◌<◌, ◌≤◌, ℕ, ◌⊎◌, pos, List, [], ◌∷◌, ◌++◌, refl}
use mathlib.Core.Logic.{inl, inr}
use Rattle.std.proofs.Common.{arith, sym, ◌∙◌, ap, subst}
use Rattle.monomial.specs.Monomials.{exponent, monomial_times, top, IsPowers}
use Rattle.monomial.proofs.Exponents.{exponent_here, exponent-times}
use Rattle.sparse_poly.specs.declared.Term.{Term}
use Rattle.sparse_poly.specs.Polynomials.{term_times, row, products, constant, IsSum}
use Rattle.sparse_poly.specs.Contributions.{IsPoly, IsResult}
use Rattle.sparse_poly.specs.Reads.{degree_in, main_variable, leading_in}
use Rattle.sparse_poly.specs.Units.{IsStripped}
use Rattle.sparse_poly.specs.Clearing.{IsDividedOut, finished, passed, divided, IsCleared}
use Rattle.sparse_poly.proofs.Ordered.{main_variable-leading}
use Rattle.sparse_poly.proofs.OneQuotient.{nonzero_product, same_leading, tail_under}
use Rattle.sparse_poly.proofs.Same.{coefficient_leading}
use Rattle.sparse_poly.proofs.Strips.{row_of_stripped}
use Rattle.pseudo_rem.specs.Steps.{IsTail}
use Rattle.pseudo_rem.proofs.Degrees.{AllPowers-poly, degree_in-products, coefficient_beyond, degree_in-below, stripped_below}
use Rattle.pseudo_rem.proofs.Cancelling.{degree_in-coefficient, coefficient_below}
use Rattle.pseudo_rem.proofs.DegreeLaw.{IsAbove, above_main, no_degree}

-- no variable from v on occurs
abbrev NoneFrom : ℕ → List Term → Type 0
NoneFrom v p = (w : ℕ) → v ≤ w → degree_in w p ≡ 0

-- where none occurs in the leading monomial, none occurs
by_leading : (v : ℕ) (t : Term) (ts : List Term) → IsPoly (t ∷ ts) → ((w : ℕ) → v ≤ w → exponent t.monomial w ≡ 0) → NoneFrom v (t ∷ ts)
by_leading v t ts h z w l = above_main (t ∷ ts) w (AllPowers-poly (t ∷ ts) h) (subst (λ o. IsAbove o w) (sym (main_variable-leading t ts h.falling)) (above t.monomial h.monomials.0.powers z))
  where
    above : (m : List (ℕ × ℕ)) → IsPowers m → ((u : ℕ) → v ≤ u → exponent m u ≡ 0) → IsAbove (top m) w
    above [] i z = tt
    above (p ∷ ps) i z = below (order p.0 v)
      where
        order : (a b : ℕ) → (a < b) ⊎ (b ≤ a)
        order a b = grind arith

        below : (p.0 < v) ⊎ (v ≤ p.0) → p.0 < w
        below (inl k) = omega (arith, k, l)
        below (inr k) = let some = i.0 in let none = z p.0 k in let own = exponent_here p ps p.0 refl in absurd (omega (arith, some, none, own))

-- the divisor and the quotient of a polynomial without variables from v on have none
pub record HasNone (v : ℕ) (n h : List Term) : Type 0 where
  pub divisor : NoneFrom v n
  pub quotient : NoneFrom v h

of_product : (v : ℕ) (g h n : List Term) → IsPoly g → IsPoly h → IsPoly n → g ≢ [] → n ≢ [] → IsSum g (products h n) → NoneFrom v g → HasNone v n h
of_product v [] h n pg ph pn some other e z = absurd (some refl)
of_product v g h [] pg ph pn some other e z = absurd (other refl)
of_product v (t ∷ ts) [] (u ∷ us) pg ph pn some other e z = absurd (pg.apart.0 (sym (coefficient_leading t ts pg.falling.0) ∙ e t.monomial))
of_product v (t ∷ ts) (a ∷ as') (u ∷ us) pg ph pn some other e z = record { divisor = by_leading v u us pn (λ w l. (zero w l).1); quotient = by_leading v a as' ph (λ w l. (zero w l).0) }
  where
    leading : t.monomial ≡ monomial_times a.monomial u.monomial
    leading = (same_leading t (term_times a u) ts (row a us ++ products as' (u ∷ us)) pg.falling.0 (tail_under a u as' us ph.monomials ph.falling pn.monomials pn.falling) pg.apart.0 (nonzero_product a.coeff u.coeff ph.apart.0 pn.apart.0) e).0

    zero : (w : ℕ) → v ≤ w → (exponent a.monomial w ≡ 0) × (exponent u.monomial w ≡ 0)
    zero w l =
        let none = z w l in
        let here : exponent t.monomial w ≡ 0 = omega (arith, none) in
        let both = ap (λ m. exponent m w) leading ∙ exponent-times a.monomial u.monomial w ph.monomials.0.powers pn.monomials.0.powers in
        (omega (arith, here, both), omega (arith, here, both))

-- the factor of a strip
strip_factor : (w : ℕ) (units : List (List Term)) (p factor rest : List Term) → IsPoly p → IsStripped units p factor rest → degree_in w factor ≤ degree_in w p
strip_factor w units p [] rest h s = absurd s.out
strip_factor w units p (t ∷ u ∷ us) rest h s = absurd s.out
strip_factor w units p (t ∷ []) [] h s = let one : t ∷ [] ≡ constant (pos 1) = s.zero_factor (sym (row_of_stripped units p t [] h s)) in let none = ap (degree_in w) one in omega (arith, none)
strip_factor w units p (t ∷ []) (u ∷ us) h s =
    let whole = ap (degree_in w) (row_of_stripped units p t (u ∷ us) h s) in
    let first = exponent-times t.monomial u.monomial w s.factor_poly.monomials.0.powers s.rest_poly.monomials.0.powers in
    omega (arith, whole, first)

product_zero : (w : ℕ) (f n e : List Term) → IsPoly f → IsPoly n → IsResult (products f n) e → degree_in w f ≡ 0 → degree_in w n ≡ 0 → degree_in w e ≡ 0
product_zero w f n e pf pn r zf zn =
    let bound = degree_in-products w f n (AllPowers-poly f pf) (AllPowers-poly n pn) in
    let less = degree_in-below w 1 e r.poly.falling r.poly.apart (omega arith) (λ m l. r.sums m ∙ coefficient_beyond w (products f n) m (omega (arith, bound, zf, zn, l))) in
    omega (arith, less)

-- the factor of a clearing
cleared_factor : (v : ℕ) {units ns : List (List Term)} {f g e h : List Term} → IsDividedOut units ns f g e h → IsPoly f → IsPoly g → NoneFrom v g → degree_in v f ≡ 0 → degree_in v e ≡ 0
cleared_factor v finished pf pg z zf = zf
cleared_factor v (passed n r) pf pg z zf = cleared_factor v r pf pg z zf
cleared_factor v (divided {n = n} {f = f} {g = g} {d = d} {k = k} i r) pf pg z zf =
    let none = of_product v g k n pg i.quotient.poly i.in_form.poly i.nonzero (λ e. i.in_form.varied (ap main_variable e)) i.quotient.product.sums z in
    cleared_factor v r i.factor.poly i.quotient.poly none.quotient (product_zero v f n d pf i.in_form.poly i.factor zf (none.divisor v (omega arith)))

pub factor_apart : (units : List (List Term)) (v : ℕ) (q factor rest : List Term) → IsPoly q → IsPoly (leading_in v q) → IsTail units v q factor rest → degree_in v factor ≡ 0
factor_apart units v q factor rest pq pi h = each h.divided
  where
    none : NoneFrom v (leading_in v q)
    none w l = by_order (order v w l)
      where
        order : (v w : ℕ) → v ≤ w → (v ≡ w) ⊎ (v < w)
        order v w l = grind arith

        by_order : (v ≡ w) ⊎ (v < w) → degree_in w (leading_in v q) ≡ 0
        by_order (inl e) = subst (λ x. degree_in x (leading_in v q) ≡ 0) e (degree_in-coefficient v (degree_in v q) q)
        by_order (inr k) = let below = coefficient_below v (degree_in v q) w q (λ e. absurd (omega (arith, k, e))) in let zero = no_degree q v w pq h.main k in omega (arith, below, zero)

    each : IsStripped units (leading_in v q) factor rest ⊎ IsCleared units (leading_in v q) factor rest → degree_in v factor ≡ 0
    each (inl s) = let below = strip_factor v units (leading_in v q) factor rest pi s in let zero = none v (omega arith) in omega (arith, below, zero)
    each (inr c) =
        let below = strip_factor v units (leading_in v q) c.strip_factor c.strip_rest pi c.stripped in
        let zero = none v (omega arith) in
        cleared_factor v c.divided_out c.stripped.factor_poly c.stripped.rest_poly
        (λ w l. let less = stripped_below w units (leading_in v q) c.strip_factor c.strip_rest pi c.stripped in let gone = none w l in omega (arith, less, gone)) (omega (arith, below, zero))
