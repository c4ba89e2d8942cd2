-- First places of polynomials among names.
use Rattle.std.specs.Prelude.{◌≡◌, ◌≢◌, ◌<◌, ◌⊎◌, ℕ, zero, suc, Bool, true, false, List, [], ◌∷◌, ◌++◌, length, slice_get, get_or, position, nat_lt}
use Rattle.std.specs.declared.option.Option.TheVariants.{None, Some}
use Rattle.std.specs.Cmp.{Equal-is, IsEquivalence, eq_by_cmp_equiv}
use Rattle.std.specs.List.{position_or_len}
use Rattle.std.specs.Ordering.{eq_by_cmp}
use Rattle.std.proofs.Common.{arith, refl, sym, ◌∙◌, ap, inl, inr, append_assoc, length-append}
use Rattle.std.proofs.lemmas.Bool.{lt-ltb}
use Rattle.std.proofs.lemmas.List.{get_or_append_left}
use Rattle.std.proofs.lemmas.List.Sums.{position_or_len_is}
use Rattle.std.proofs.lemmas.List.Quantifiers.{position-Some}
use Rattle.std.proofs.lemmas.Option.{none-some, same_Some, slice_get_within, slice_get-get_or, get_or_from_slice_get}
use Rattle.sparse_poly.specs.declared.Term.{Term}
use Rattle.sparse_poly.specs.Order.{poly_cmp}
use Rattle.sparse_poly.specs.OrderLaws.{poly_cmp-IsAntisymmetric, poly_cmp-IsTotalOrder}
use Rattle.pattern_store.specs.Numbers.{IsPlace, HasNoPlace, GrowsTo}

abbrev pub same_poly : List Term → List Term → Bool
same_poly = eq_by_cmp poly_cmp

-- the test of equality tells
poly_tells : (p q : List Term) → ((same_poly p q ≡ true) × (p ≡ q)) ⊎ ((same_poly p q ≡ false) × (p ≢ q))
poly_tells p q = go (same_poly p q) refl
  where
    law : IsEquivalence same_poly
    law = eq_by_cmp_equiv poly_cmp-IsTotalOrder

    clash : false ≡ true → ⊥
    clash e = cc

    go : (b : Bool) → same_poly p q ≡ b → ((same_poly p q ≡ true) × (p ≡ q)) ⊎ ((same_poly p q ≡ false) × (p ≢ q))
    go true t = inl (t, poly_cmp-IsAntisymmetric p q ((Equal-is (poly_cmp p q)).0 t))
    go false f = inr (f, λ e. clash (sym f ∙ (ap (same_poly p) (sym e) ∙ law.refl p)))

pub one_place : (names : List (List Term)) (p : List Term) (i j : ℕ) → IsPlace names p i → IsPlace names p j → i ≡ j
one_place names p i j a b =
    let t : (i ≡ j) ⊎ ((i < j) ⊎ (j < i)) = grind arith in
    elim t [ inl e ↦ e | inr u ↦ elim u [ inl lt ↦ absurd (b.first i lt a.is) | inr gt ↦ absurd (a.first j gt b.is) ] ]

pub place_stays : (names more : List (List Term)) (p : List Term) (i : ℕ) → IsPlace names p i → IsPlace (names ++ more) p i
place_stays names more p i a =
    let lt : i < length names = slice_get_within names i p a.is in
    record {
      is = slice_get-get_or (names ++ more) i p (omega (arith, length-append names more, lt)) ∙ ap Some (get_or_append_left names more p i lt ∙ get_or_from_slice_get names i p p a.is);
      first = λ j l e. (let in_it : j < length names = omega (arith, l, lt) in
          a.first j l (slice_get-get_or names j p in_it ∙ ap Some (sym (get_or_append_left names more p j in_it) ∙ get_or_from_slice_get (names ++ more) j p p e)));
    }

-- where a polynomial stands it has a first place
pub least_place : (names : List (List Term)) (p : List Term) (i : ℕ) → slice_get names i ≡ Some p → (j : ℕ) × IsPlace names p j
least_place [] p i e = absurd (none-some p e)
least_place (x ∷ xs) p zero e = (zero, record { is = e; first = λ j lt _. absurd (omega (arith, lt)) })
least_place (x ∷ xs) p (suc i) e = elim (poly_tells x p) [
  | inl t ↦ (zero, record { is = ap Some t.1; first = λ j lt _. absurd (omega (arith, lt)) })
  | inr f ↦ later f.1 (least_place xs p i e)
]
  where
    later : x ≢ p → (j : ℕ) × IsPlace xs p j → (j : ℕ) × IsPlace (x ∷ xs) p j
    later ne k = (suc k.0, record { is = k.1.is; first = first })
      where
        first : (j : ℕ) → j < suc k.0 → slice_get (x ∷ xs) j ≡ Some p → ⊥
        first zero lt a = ne (same_Some x p a)
        first (suc j) lt a = k.1.first j (omega (arith, lt)) a

pub stored_place : (names : List (List Term)) (p q : List Term) (i : ℕ) → slice_get names i ≡ Some q → same_poly p q ≡ true → (j : ℕ) × IsPlace names p j
stored_place names p q i e t = least_place names p i (e ∙ ap Some (sym (poly_cmp-IsAntisymmetric p q ((Equal-is (poly_cmp p q)).0 t))))

pub place_found : (names : List (List Term)) (p : List Term) (i : ℕ) → position (same_poly p) names ≡ Some i → IsPlace names p i
place_found names p i e =
    let s = position-Some (same_poly p) names i p e in
    let same : p ≡ get_or names i p = poly_cmp-IsAntisymmetric p (get_or names i p) ((Equal-is (poly_cmp p (get_or names i p))).0 s.1) in
    record {
      is = slice_get-get_or names i p s.0 ∙ ap Some (sym same);
      first = λ j lt a. clash (sym (s.2 j lt) ∙ (ap (same_poly p) (get_or_from_slice_get names j p p a) ∙ law.refl p));
    }
  where
    law : IsEquivalence same_poly
    law = eq_by_cmp_equiv poly_cmp-IsTotalOrder

    clash : false ≡ true → ⊥
    clash e = cc

pub no_place : (names : List (List Term)) (p : List Term) → position (same_poly p) names ≡ None → HasNoPlace names p
no_place names p e i is = go (least_place names p i is)
  where
    law : IsEquivalence same_poly
    law = eq_by_cmp_equiv poly_cmp-IsTotalOrder

    go : (j : ℕ) × IsPlace names p j → ⊥
    go k =
        let lt : k.0 < length names = slice_get_within names k.0 p k.1.is in
        let at : position_or_len (same_poly p) names ≡ k.0 = position_or_len_is (same_poly p) names k.0 p (omega arith)
        (λ j l. elim (poly_tells p (get_or names j p)) [
          | inl t ↦ absurd (k.1.first j l (slice_get-get_or names j p (omega (arith, l, lt)) ∙ ap Some (sym t.1)))
          | inr f ↦ f.0
        ])
        (λ _. ap (same_poly p) (get_or_from_slice_get names k.0 p p k.1.is) ∙ law.refl p) in
        let in_it : nat_lt k.0 (length names) ≡ true = lt-ltb k.0 (length names) lt in
        none-some k.0 (sym e ∙ rw (at, in_it) refl)

pub grows_on : (a b c : List (List Term)) → GrowsTo a b → GrowsTo b c → GrowsTo a c
grows_on a b c f g = (f.0 ++ g.0, g.1 ∙ (ap (λ (l : List (List Term)). l ++ g.0) f.1 ∙ append_assoc a f.0 g.0))
