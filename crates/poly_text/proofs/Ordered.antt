-- Terms in order are a polynomial, and the other way round.
use Rattle.std.specs.Prelude.{◌≡◌, ◌≢◌, ℕ, ◌+◌, ◌^◌, ◌<◌, ◌≤◌, Bool, true, false, nat_lt, if◌then◌else◌, Option, None, Some, option_map, pos, unsigned_abs, List, [], ◌∷◌, refl}
use Rattle.std.proofs.Common.{sym, ◌∙◌, ap, arith}
use Rattle.std.specs.List.{AllByRecursion}
use Rattle.std.specs.Ordering.{is_lt}
use Rattle.std.specs.declared.cmp.Ordering.TheVariants.{Less}
use Rattle.monomial.specs.Monomials.{monomial_cmp, IsMonomial, IsPowers, IsBelow}
use Rattle.sparse_poly.specs.declared.Term.{Term}
use Rattle.sparse_poly.specs.Contributions.{IsPoly, IsFalling, max_coeff}
use Rattle.sparse_poly.proofs.Same.{all_through}
use Rattle.poly_text.proofs.Digits.{below_test, below_of}
use Rattle.poly_text.specs.Numbers.{IsFactorInRange, AreInRange}
use Rattle.poly_text.specs.Order.{product, is_below, first_factor, disorder, or_next, first_disorder}
use Rattle.poly_text.specs.Disorder.{Disorder, TermAt, FactorAt}
use Rattle.poly_text.proofs.Orders.{product_ordered}
use Rattle.sparse_poly.proofs.InOrder.{less_from}

-- ---- a polynomial is in order

-- powers are factors in order
factors_ordered : (n : ℕ) (ps : List (ℕ × ℕ)) → IsPowers ps → first_factor n ps ≡ None
factors_ordered n [] h = refl
factors_ordered n (p ∷ []) h = refl
factors_ordered n (p ∷ q ∷ ps) h = ap (λ b. if b then first_factor (n + 1) (q ∷ ps) else Some (n + 1)) (below_test q.0 p.0 h.1.0) ∙ factors_ordered (n + 1) (q ∷ ps) h.2

term_ordered : (i : ℕ) (before : Option (List (ℕ × ℕ))) (t : Term) → IsPowers t.monomial → is_below before t.monomial ≡ true → disorder i before t ≡ None
term_ordered i before t h b =
    let f = factors_ordered 0 t.monomial h in
    let e : is_below before (product t.monomial) ≡ true = ap (is_below before) (product_ordered 0 t.monomial f) ∙ b in
    ap (λ v. if v then option_map (FactorAt i) (first_factor 0 t.monomial) else Some (TermAt i)) e ∙ ap (option_map (FactorAt i)) f

rest_ordered : (i : ℕ) (t : Term) (ts : List Term) → IsFalling (t ∷ ts) → AllByRecursion (λ (u : Term). IsMonomial u.monomial) ts → first_disorder i (Some t.monomial) ts ≡ None
rest_ordered i t [] h m = refl
rest_ordered i t (u ∷ us) h m = ap (λ o. or_next o (first_disorder (i + 1) (Some u.monomial) us)) (term_ordered i (Some t.monomial) u m.0.powers (ap is_lt h.0.0)) ∙ rest_ordered (i + 1) u us h.1 m.1

pub poly_ordered : (p : List Term) → IsPoly p → first_disorder 0 None p ≡ None
poly_ordered [] h = refl
poly_ordered (t ∷ ts) h = ap (λ o. or_next o (first_disorder 1 (Some t.monomial) ts)) (term_ordered 0 None t h.monomials.0.powers refl) ∙ rest_ordered 1 t ts h.falling h.monomials.1

-- ---- terms in order, whose numbers are in range, are a polynomial

pub record InOrder (before : Option (List (ℕ × ℕ))) (t : Term) : Type 0 where
  pub below : is_below before t.monomial ≡ true
  pub factors : first_factor 0 t.monomial ≡ None

in_order : (i : ℕ) (before : Option (List (ℕ × ℕ))) (t : Term) → disorder i before t ≡ None → InOrder before t
in_order i before t h = by (is_below before (product t.monomial)) refl (first_factor 0 t.monomial) refl h
  where
    by : (v : Bool) → is_below before (product t.monomial) ≡ v → (o : Option ℕ) → first_factor 0 t.monomial ≡ o → (if v then option_map (FactorAt i) o else Some (TermAt i)) ≡ None → InOrder before t
    by true e None f k = record { below = sym (ap (is_below before) (product_ordered 0 t.monomial f)) ∙ e; factors = f }
    by true e (Some n) f k = absurd (cc)
    by false e o f k = absurd (cc)

first_none : (a b : Option Disorder) → or_next a b ≡ None → (a ≡ None) × (b ≡ None)
first_none None b h = (refl, h)
first_none (Some d) b h = absurd (cc)

below_more : (v w : ℕ) (ps : List (ℕ × ℕ)) → v < w → IsBelow v ps → IsBelow w ps
below_more v w [] l h = tt
below_more v w (p ∷ ps) l h = let a = h.0 in (omega arith, below_more v w ps l h.1)

powers_of : (u n : ℕ) (ps : List (ℕ × ℕ)) → AllByRecursion (IsFactorInRange u) ps → first_factor n ps ≡ None → IsPowers ps
powers_of u n [] r f = tt
powers_of u n (p ∷ []) r f = (r.0.1, tt, tt)
powers_of u n (p ∷ q ∷ ps) r f = by (nat_lt q.0 p.0) refl f (λ k. powers_of u (n + 1) (q ∷ ps) r.1 k)
  where
    by : (v : Bool) → nat_lt q.0 p.0 ≡ v → (if v then first_factor (n + 1) (q ∷ ps) else Some (n + 1)) ≡ None → (first_factor (n + 1) (q ∷ ps) ≡ None → IsPowers (q ∷ ps)) → IsPowers (p ∷ q ∷ ps)
    by true e k rest =
        let h = rest k in
        let l = below_of q.0 p.0 e in
        (r.0.1, (l, below_more q.0 p.0 ps l h.1), h)
    by false e k rest = absurd (cc)

range_of : (u : ℕ) (ps : List (ℕ × ℕ)) → u ≤ 2 ^ 32 → AllByRecursion (IsFactorInRange u) ps → AllByRecursion (λ (p : ℕ × ℕ). (p.0 < 2 ^ 32) × (p.1 ≤ 65535)) ps
range_of u [] b r = tt
range_of u (p ∷ ps) b r = let a = r.0.0 in ((omega arith, r.0.2), range_of u ps b r.1)

pub monomial_of : (u : ℕ) (ps : List (ℕ × ℕ)) → u ≤ 2 ^ 32 → AllByRecursion (IsFactorInRange u) ps → first_factor 0 ps ≡ None → IsMonomial ps
monomial_of u ps b r f = record { powers = powers_of u 0 ps r f; in_range = range_of u ps b r }

-- the terms behind one fall below it, and their factors are in order
pub record AreBehind (t : Term) (ts : List Term) : Type 0 where
  pub falling : IsFalling (t ∷ ts)
  pub factors : AllByRecursion (λ (u : Term). first_factor 0 u.monomial ≡ None) ts

behind : (i : ℕ) (t : Term) (ts : List Term) → first_disorder i (Some t.monomial) ts ≡ None → AreBehind t ts
behind i t [] h = record { falling = (tt, tt); factors = tt }
behind i t (u ∷ us) h =
    let o = first_none (disorder i (Some t.monomial) u) (first_disorder (i + 1) (Some u.monomial) us) h in
    let a = in_order i (Some t.monomial) u o.0 in
    let rest = behind (i + 1) u us o.1 in
    let l : monomial_cmp u.monomial t.monomial ≡ Less = less_from (monomial_cmp u.monomial t.monomial) a.below in
    record { falling = ((l, all_through u.monomial t.monomial us l rest.falling.0), rest.falling); factors = (a.factors, rest.factors) }

pub record AreOrdered (ts : List Term) : Type 0 where
  pub falling : IsFalling ts
  pub factors : AllByRecursion (λ (u : Term). first_factor 0 u.monomial ≡ None) ts

pub are_ordered : (ts : List Term) → first_disorder 0 None ts ≡ None → AreOrdered ts
are_ordered [] h = record { falling = tt; factors = tt }
are_ordered (t ∷ ts) h =
    let o = first_none (disorder 0 None t) (first_disorder 1 (Some t.monomial) ts) h in
    let a = in_order 0 None t o.0 in
    let rest = behind 1 t ts o.1 in
    record { falling = rest.falling; factors = (a.factors, rest.factors) }

monomials_of : (u : ℕ) (ts : List Term) → u ≤ 2 ^ 32 → AreInRange u ts → AllByRecursion (λ (t : Term). first_factor 0 t.monomial ≡ None) ts → AllByRecursion (λ (t : Term). IsMonomial t.monomial) ts
monomials_of u [] b r f = tt
monomials_of u (t ∷ ts) b r f = (monomial_of u t.monomial b r.0.factors f.0, monomials_of u ts b r.1 f.1)

apart_of : (u : ℕ) (ts : List Term) → AreInRange u ts → AllByRecursion (λ (t : Term). t.coeff ≢ pos 0) ts
apart_of u [] r = tt
apart_of u (t ∷ ts) r = (r.0.apart, apart_of u ts r.1)

small_of : (u : ℕ) (ts : List Term) → AreInRange u ts → AllByRecursion (λ (t : Term). unsigned_abs t.coeff ≤ max_coeff) ts
small_of u [] r = tt
small_of u (t ∷ ts) r = (r.0.in_range, small_of u ts r.1)

pub ordered_poly : (u : ℕ) (ts : List Term) → u ≤ 2 ^ 32 → AreInRange u ts → first_disorder 0 None ts ≡ None → IsPoly ts
ordered_poly u ts b r h =
    let o = are_ordered ts h in
    record { falling = o.falling; monomials = monomials_of u ts b r o.factors; apart = apart_of u ts r; in_range = small_of u ts r }
