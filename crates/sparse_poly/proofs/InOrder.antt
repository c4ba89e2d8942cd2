-- Terms that are a polynomial's already add up to themselves.
use Rattle.std.specs.Prelude.{◌≡◌, ◌≢◌, ◌≤◌, ℕ, ◌+◌, if◌then◌else◌, true, false, pos, unsigned_abs, List, [], ◌∷◌, length, slice_index_or, Bool, IsTrue, refl}
use Rattle.std.proofs.Common.{arith, sym, ◌∙◌, ap, subst}
use Rattle.std.specs.List.{AllByRecursion}
use Rattle.std.specs.Ordering.{is_eq, is_lt, ordering_reverse}
use Rattle.std.specs.declared.cmp.Ordering.{Ordering}
use Rattle.std.specs.declared.cmp.Ordering.TheVariants.{Less, Equal, Greater}
use Rattle.monomial.specs.Monomials.{monomial_cmp, IsMonomial}
use Rattle.monomial.proofs.Total.{monomial_cmp-IsTotalOrder}
use Rattle.sparse_poly.specs.declared.Term.{Term}
use Rattle.sparse_poly.specs.Polynomials.{weight, is_of}
use Rattle.sparse_poly.specs.Contributions.{max_coeff, IsFalling, IsPoly, IsResult}
use Rattle.sparse_poly.proofs.Same.{all_through}
use Rattle.sparse_poly.proofs.Rows.{degree_of-monomials}
use Rattle.sparse_poly.proofs.Evaluation.{is_of-same}

-- the first term, if there is one, is below this one
abbrev pub IsAboveFirst : Term → List Term → Type 0
IsAboveFirst t [] = Unit {0}
IsAboveFirst t (u ∷ us) = monomial_cmp u.monomial t.monomial ≡ Less

above_all : (t : Term) (ts : List Term) → IsAboveFirst t ts → IsFalling ts → AllByRecursion (λ (u : Term). monomial_cmp u.monomial t.monomial ≡ Less) ts
above_all t [] h f = tt
above_all t (u ∷ us) h f = (h, all_through u.monomial t.monomial us h f.0)

IsPoly-more : (t : Term) (ts : List Term) → t.coeff ≢ pos 0 → unsigned_abs t.coeff ≤ max_coeff → IsMonomial t.monomial → IsAboveFirst t ts → IsPoly ts → IsPoly (t ∷ ts)
IsPoly-more t ts apart small monomial above p = record {
  falling = (above_all t ts above p.falling, p.falling);
  monomials = (monomial, p.monomials);
  apart = (apart, p.apart);
  in_range = (small, p.in_range);
}

pub less_from : (o : Ordering) → is_lt o ≡ true → o ≡ Less
less_from Less e = refl
less_from Equal e = absurd (cc e)
less_from Greater e = absurd (cc e)

-- the same of a list with a next term
pub IsPoly-before : (t u : Term) (ts : List Term) (b : Bool) → 1 ≤ length ts → u ≡ slice_index_or ts 0 u → b ≡ is_lt (monomial_cmp u.monomial t.monomial) → t.coeff ≢ pos 0 → unsigned_abs t.coeff ≤ max_coeff → IsMonomial t.monomial → IsTrue b → IsPoly ts → IsPoly (t ∷ ts)
IsPoly-before t u [] b l e f apart small m h p = absurd (omega arith)
IsPoly-before t u (x ∷ xs) b l e f apart small m h p =
    IsPoly-more t (x ∷ xs) apart small m (ap (λ (y : Term). monomial_cmp y.monomial t.monomial) (sym e) ∙ less_from _ (sym f ∙ h)) p

-- each monomial stands in one term at most
pub weight_above : (m : List (ℕ × ℕ)) (ts : List Term) → AllByRecursion (λ (t : Term). monomial_cmp t.monomial m ≡ Less) ts → weight ts m ≡ 0
weight_above m [] h = refl
weight_above m (t ∷ ts) h =
    ap (λ b. (if b then unsigned_abs t.coeff else 0) + weight ts m) (ap is_eq (monomial_cmp-IsTotalOrder.antisymm m t.monomial ∙ ap ordering_reverse h.0)) ∙ none_more (weight ts m) ∙ weight_above m ts h.1
  where
    none_more : (n : ℕ) → 0 + n ≡ n
    none_more n = omega arith

weight_light : (m : List (ℕ × ℕ)) (ts : List Term) → IsPoly ts → weight ts m ≤ max_coeff
weight_light m [] p = omega arith
weight_light m (t ∷ ts) p =
    elim (is_of m t) as (λ b. is_of m t ≡ b → (if b then unsigned_abs t.coeff else 0) + weight ts m ≤ max_coeff) [
      | true ↦ λ e.
          let same : m ≡ t.monomial = is_of-same m t e in
          let none : weight ts m ≡ 0 = weight_above m ts (subst (λ n. AllByRecursion (λ (u : Term). monomial_cmp u.monomial n ≡ Less) ts) (sym same) p.falling.0) in
          let small : unsigned_abs t.coeff ≤ max_coeff = p.in_range.0 in
          omega arith
      | false ↦ λ e.
          let rest : weight ts m ≤ max_coeff = weight_light m ts (record { falling = p.falling.1; monomials = p.monomials.1; apart = p.apart.1; in_range = p.in_range.1 }) in
          omega arith
    ] refl

pub IsResult-own : (ts : List Term) → IsPoly ts → IsResult ts ts
IsResult-own ts p = record {
  degree = degree_of-monomials ts p.monomials;
  light = λ m. weight_light m ts p;
  sums = λ m. refl;
  poly = p;
}
