-- Steps of the division of polynomials.
use Rattle.std.specs.Prelude.{◌≡◌, ◌≢◌, ◌<◌, ◌≤◌, ℕ, ◌+◌, length, slice_index_or, take, if◌then◌else◌, pos, ◌*ℤ◌, unsigned_abs, List, [], ◌∷◌, ◌++◌, refl}
use Rattle.std.proofs.Common.{arith, sym, ◌∙◌, ap, subst}
use Rattle.std.specs.List.{AllByRecursion}
use Rattle.std.specs.declared.option.Option.{Option}
use Rattle.std.specs.declared.option.Option.TheVariants.{None, Some}
use Rattle.std.proofs.lemmas.Option.{none-some}
use Rattle.monomial.specs.Monomials.{monomial_times, exponent, too_high, IsPowers, IsMonomial, Divides}
use Rattle.monomial.proofs.Exponents.{exponent-times, IsMonomial-times}
use Rattle.sparse_poly.specs.declared.Term.{Term}
use Rattle.sparse_poly.specs.Polynomials.{is_of, weight, term_times, row}
use Rattle.sparse_poly.specs.Contributions.{max_coeff, degree_of, higher, IsPoly}
use Rattle.sparse_poly.specs.Standing.{AllMonomials}
use Rattle.sparse_poly.specs.Clearing.{IsLight}
use Rattle.sparse_poly.specs.Dividing.{IsTermOver, Fits, IsRow}
use Rattle.sparse_poly.proofs.Adding.{degree_of-append, none_before, take_one}
use Rattle.sparse_poly.proofs.Descending.{all_more}
use Rattle.sparse_poly.proofs.Evaluation.{weight-append, is_of-own}
use Rattle.sparse_poly.proofs.Rows.{all_at}
use Rattle.sparse_poly.proofs.Strips.{row_falls, row_apart}
use Rattle.sparse_poly.specs.OrderLaws.{same_term}
use Rattle.sparse_poly.proofs.OneQuotient.{AllUnder, right_cancel, right_factor, times_comm}

-- light contributions
pub light_front : (cs ds : List Term) → IsLight (cs ++ ds) → IsLight cs
light_front cs ds l = record {
  degree = none_before (degree_of cs) (degree_of ds) (sym (degree_of-append cs ds) ∙ l.degree);
  light = λ m. let w = l.light m in omega (arith, w, weight-append m cs ds);
}

none_after : (a b : Option ℕ) → higher a b ≡ None → b ≡ None
none_after None b e = e
none_after (Some v) None e = refl
none_after (Some v) (Some w) e = absurd (none-some _ (sym e))

pub light_back : (cs ds : List Term) → IsLight (cs ++ ds) → IsLight ds
light_back cs ds l = record {
  degree = none_after (degree_of cs) (degree_of ds) (sym (degree_of-append cs ds) ∙ l.degree);
  light = λ m. let w = l.light m in omega (arith, w, weight-append m cs ds);
}

pub light_rest : (c : Term) (cs : List Term) → IsLight (c ∷ cs) → IsLight cs
light_rest c cs l = light_back (c ∷ []) cs l

light_first : (c : Term) (cs : List Term) → IsLight (c ∷ cs) → (too_high c.monomial ≡ None) × (unsigned_abs c.coeff ≤ max_coeff)
light_first c cs l =
    let w : (if is_of c.monomial c then unsigned_abs c.coeff else 0) + weight cs c.monomial ≤ max_coeff = l.light c.monomial in
    let own : (if is_of c.monomial c then unsigned_abs c.coeff else 0) ≡ unsigned_abs c.coeff = ap (λ b. if b then unsigned_abs c.coeff else 0) (is_of-own c) in
    (none_before (too_high c.monomial) (degree_of cs) l.degree, omega (arith, w, own))

light_row : (t : Term) (us : List Term) → IsLight (row t us) → AllByRecursion (Fits t) us
light_row t [] l = tt
light_row t (u ∷ us) l = (light_first (term_times t u) (row t us) l, light_row t us (light_rest (term_times t u) (row t us) l))

pub row_high : (t : Term) (us : List Term) (k v : ℕ) (u : Term) → k < length us → u ≡ slice_index_or us k u → too_high (monomial_times t.monomial u.monomial) ≡ Some v → IsLight (row t us) → ⊥
row_high t us k v u h e s l = none-some v (sym (all_at (Fits t) us k u h e (light_row t us l)).0 ∙ s)

pub row_heavy : (t : Term) (us : List Term) (k : ℕ) (u : Term) → k < length us → u ≡ slice_index_or us k u → max_coeff < unsigned_abs (t.coeff *ℤ u.coeff) → IsLight (row t us) → ⊥
row_heavy t us k u h e s l = let f = (all_at (Fits t) us k u h e (light_row t us l)).1 in absurd (omega (arith, f, s))

pub row-more : (t : Term) (us : List Term) (u : Term) → row t (us ++ u ∷ []) ≡ row t us ++ term_times t u ∷ []
row-more t [] u = refl
row-more t (v ∷ vs) u = ap (λ ws. term_times t v ∷ ws) (row-more t vs u)

pub IsRow-more : (t u w : Term) (us : List Term) (k : ℕ) (vs zs : List Term) → k < length us → u ≡ slice_index_or us k u → IsRow t (take k us) vs → too_high (monomial_times t.monomial u.monomial) ≡ None → w.monomial ≡ monomial_times t.monomial u.monomial → (w.coeff ≡ t.coeff *ℤ u.coeff) × (unsigned_abs (t.coeff *ℤ u.coeff) ≤ max_coeff) → zs ≡ vs ++ w ∷ [] → IsRow t (take (k + 1) us) zs
IsRow-more t u w us k vs zs h e r low m c z = record {
  row = z ∙ ap (λ ws. ws ++ w ∷ []) r.row ∙ ap (λ x. row t (take k us) ++ x ∷ []) (same_term w (term_times t u) m c.0) ∙ sym (row-more t (take k us) u) ∙ ap (row t) (sym (take_one us k u h e));
  fits = subst (AllByRecursion (Fits t)) (sym (take_one us k u h e)) (all_more (Fits t) (take k us) u r.fits (low, c.1));
}

-- a row of fitting products is a polynomial
pub IsPoly-row : (t : Term) (us : List Term) → IsMonomial t.monomial → t.coeff ≢ pos 0 → IsPoly us → AllByRecursion (Fits t) us → IsPoly (row t us)
IsPoly-row t us h n p f = record {
  falling = row_falls t us h.powers p.monomials p.falling;
  monomials = each us p.monomials f;
  apart = row_apart t us n p.apart;
  in_range = small us f;
}
  where
    each : (us : List Term) → AllMonomials us → AllByRecursion (Fits t) us → AllMonomials (row t us)
    each [] i f = tt
    each (u ∷ us) i f = (IsMonomial-times t.monomial u.monomial h i.0 f.0.0, each us i.1 f.1)

    small : (us : List Term) → AllByRecursion (Fits t) us → AllByRecursion (λ (v : Term). unsigned_abs v.coeff ≤ max_coeff) (row t us)
    small [] f = tt
    small (u ∷ us) f = (f.0.1, small us f.1)

-- a term over a term
pub divides_over : (d r t : Term) → IsPowers d.monomial → IsTermOver d r t → Divides d.monomial r.monomial
divides_over d r t h o v = let e = exponent-times t.monomial d.monomial v o.own.powers h in let s = ap (λ m. exponent m v) o.monomial in omega (arith, e, s)

pub IsTermOver-made : (d r t : Term) → IsMonomial d.monomial → IsMonomial t.monomial → monomial_times d.monomial t.monomial ≡ r.monomial → t.coeff *ℤ d.coeff ≡ r.coeff → IsTermOver d r t
IsTermOver-made d r t h i e f = record { own = i; monomial = times_comm t.monomial d.monomial i.powers h.powers ∙ e; coeff = f }

pub one_term : (d r t s : Term) → IsMonomial d.monomial → d.coeff ≢ pos 0 → IsTermOver d r t → IsTermOver d r s → t ≡ s
one_term d r t s h n o p = same_term t s (right_cancel t.monomial s.monomial d.monomial o.own.powers p.own.powers h.powers (o.monomial ∙ sym p.monomial)) (right_factor t.coeff s.coeff d.coeff n (o.coeff ∙ sym p.coeff))

pub IsPoly-before : (t : Term) (ts : List Term) → IsMonomial t.monomial → t.coeff ≢ pos 0 → unsigned_abs t.coeff ≤ max_coeff → AllUnder t.monomial ts → IsPoly ts → IsPoly (t ∷ ts)
IsPoly-before t ts m n s u p = record { falling = (u, p.falling); monomials = (m, p.monomials); apart = (n, p.apart); in_range = (s, p.in_range) }
