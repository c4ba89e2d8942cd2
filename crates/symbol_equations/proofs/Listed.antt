-- Lists of the differences of equations, and where all of them vanish.
use Rattle.std.specs.Prelude.{Result, ◌≡◌, ℕ, ◌+◌, ◌<◌, ◌↔◌, List, [], ◌∷◌, ◌++◌, Contains, All, take, length, slice_index_or, refl}
use Rattle.std.proofs.Common.{sym as back, ◌∙◌, ap, subst, ◌⊎◌, inl, inr}
use Rattle.std.proofs.lemmas.List.{take_more}
use Rattle.std.proofs.lemmas.List.Elements.{All-contains, All-contains_itself, All-weaker, Contains-append_left, Contains-append_right, Contains-append_cases}
use Rattle.std.specs.declared.alloc.AllocError.{AllocError}
use Rattle.label_tuples.proofs.Members.{IsListOf, none_contained, contains_here, contains_cons}
use Rattle.field_laws.specs.Field.{Field, IsField, AllElements}
use Rattle.sparse_poly.specs.declared.Term.{Term}
use Rattle.sparse_poly.specs.Polynomials.{eval}
use Rattle.sparse_poly.proofs.Same.{same_polynomial}
use Rattle.fusion_ring.specs.Fusion.{Fusion}
use Rattle.symbol_index.specs.declared.Symbol.{Symbol}
use Rattle.symbol_equations.specs.Values.{symbol_value, side_value}
use Rattle.symbol_equations.specs.Differences.{IsDifference, EquationAt, AreDifferences, MakesSides, AreTheirDifferences}
use Rattle.symbol_equations.proofs.Vanishing.{vanishes}

-- the same equations, named in another way
pub same_equations : (r : Fusion) (P Q : List (List Symbol) → List (List Symbol) → Type 0) (ps : List (List Term)) →
    ((left right : List (List Symbol)) → P left right → Q left right) → ((left right : List (List Symbol)) → Q left right → P left right) → AreDifferences r P ps → AreDifferences r Q ps
same_equations r P Q ps to from are = record {
  each = λ p m. let e = are.each p m in (e.0, e.1, to e.0 e.1 e.2, e.3);
  all = λ left right q. are.all left right (from left right q);
}

-- the equations of two kinds
pub both_kinds : (r : Fusion) (P Q : List (List Symbol) → List (List Symbol) → Type 0) (ps qs both : List (List Term)) → both ≡ ps ++ qs →
    AreDifferences r P ps → AreDifferences r Q qs → AreDifferences r (λ left right. P left right ⊎ Q left right) both
both_kinds r P Q ps qs both e first second = subst (λ us. AreDifferences r (λ left right. P left right ⊎ Q left right) us) (back e) record {
  each = λ p m. elim (Contains-append_cases ps qs p m) [
    | inl i ↦ let d = first.each p i in (d.0, d.1, inl d.2, d.3)
    | inr i ↦ let d = second.each p i in (d.0, d.1, inr d.2, d.3)
  ];
  all = λ left right q. elim q [
    | inl i ↦ let d = first.all left right i in (d.0, Contains-append_left ps qs d.0 d.1, d.2)
    | inr i ↦ let d = second.all left right i in (d.0, Contains-append_right ps qs d.0 d.1, d.2)
  ];
}

module _ {L : Type 0} (r : Fusion) (left_at right_at : L → List (List Symbol)) where
  -- the differences at the labels of a list
  abbrev pub AreDifferencesAt : List L → List (List Term) → Type 0
  AreDifferencesAt ats ps = AreDifferences r (EquationAt (Contains ats) left_at right_at) ps

  pub differences_none : AreDifferencesAt [] []
  differences_none = record {
    each = λ p m. absurd (none_contained p m);
    all = λ left right e. absurd (none_contained e.0 e.1);
  }

  differences_push : (ats : List L) (at : L) (ps : List (List Term)) (p : List Term) → AreDifferencesAt ats ps → IsDifference r (left_at at) (right_at at) p → AreDifferencesAt (ats ++ at ∷ []) (ps ++ p ∷ [])
  differences_push ats at ps p are d = record {
    each = λ q m. elim (Contains-append_cases ps (p ∷ []) q m) [
      | inl i ↦ let e = are.each q i in (e.0, e.1, (e.2.0, Contains-append_left ats (at ∷ []) e.2.0 e.2.1, e.2.2, e.2.3), e.3)
      | inr i ↦ elim (contains_cons q p [] i) [
        | inl s ↦ (left_at at, right_at at, (at, Contains-append_right ats (at ∷ []) at (contains_here at []), refl, refl), subst (λ z. IsDifference r (left_at at) (right_at at) z) s d)
        | inr z ↦ absurd (none_contained q z)
      ]
    ];
    all = λ left right e. elim (Contains-append_cases ats (at ∷ []) e.0 e.1) [
      | inl i ↦ let o = are.all left right (e.0, i, e.2, e.3) in (o.0, Contains-append_left ps (p ∷ []) o.0 o.1, o.2)
      | inr i ↦ elim (contains_cons e.0 at [] i) [
        | inl s ↦ (
          p,
          Contains-append_right ps (p ∷ []) p (contains_here p []),
          subst (λ z. IsDifference r z right p) (back e.2) (subst (λ z. IsDifference r (left_at e.0) z p) (back e.3) (subst (λ z. IsDifference r (left_at z) (right_at z) p) s d)),
        )
        | inr z ↦ absurd (none_contained e.0 z)
      ]
    ];
  }

  -- the step of a loop over the labels
  pub differences_more : (all : List L) (i : ℕ) (at : L) (ps qs : List (List Term)) (p : List Term) → i < length all → at ≡ slice_index_or all i at → qs ≡ ps ++ p ∷ [] →
      AreDifferencesAt (take i all) ps → IsDifference r (left_at at) (right_at at) p → AreDifferencesAt (take (i + 1) all) qs
  differences_more all i at ps qs p h s e are d =
      subst (λ ats. AreDifferencesAt ats qs) (ap (λ z. take i all ++ z ∷ []) s ∙ back (take_more all i at h))
      (subst (λ us. AreDifferencesAt (take i all ++ at ∷ []) us) (back e) (differences_push (take i all) at ps p are d))

  -- its end
  pub differences_all : (Is : L → Type 0) (all some : List L) (ps : List (List Term)) → IsListOf all Is → some ≡ all → AreDifferencesAt some ps → AreDifferences r (EquationAt Is left_at right_at) ps
  differences_all Is all some ps is s are =
      same_equations r (EquationAt (Contains some) left_at right_at) (EquationAt Is left_at right_at) ps
      (λ left right e. (e.0, (is e.0).0 (subst (λ ats. Contains ats e.0) s e.1), e.2, e.3))
      (λ left right e. (e.0, subst (λ ats. Contains ats e.0) (back s) ((is e.0).1 e.1), e.2, e.3)) are

-- ---- where all of them vanish
module _ {E : Type 0} (f : Field E) (l : IsField f) (x : List E) (elements : AllElements f x) (r : Fusion) (IsEquation : List (List Symbol) → List (List Symbol) → Type 0) (ps : List (List Term)) (are : AreDifferences r IsEquation ps) where
  pub all_vanish : All (λ p. eval f x p ≡ f.zero) ps ↔ ((left right : List (List Symbol)) → IsEquation left right → side_value f (symbol_value f r x) left ≡ side_value f (symbol_value f r x) right)
  all_vanish = (
    λ v left right e.
        let d = are.all left right e in
        (vanishes f l x elements r left right d.0 d.2).0 (All-contains (λ p. eval f x p ≡ f.zero) ps d.0 v d.1),
    λ h.
        All-weaker (Contains ps) (λ p. eval f x p ≡ f.zero)
        (λ p m. let d = are.each p m in (vanishes f l x elements r d.0 d.1 p d.3).1 (h d.0 d.1 d.2)) ps (All-contains_itself ps),
  )

  -- for equations at labels
  pub all_vanish_at : {L : Type 0} (Is : L → Type 0) (left_at right_at : L → List (List Symbol)) → ((left right : List (List Symbol)) → EquationAt Is left_at right_at left right → IsEquation left right) →
      All (λ p. eval f x p ≡ f.zero) ps → (at : L) → Is at → side_value f (symbol_value f r x) (left_at at) ≡ side_value f (symbol_value f r x) (right_at at)
  all_vanish_at Is left_at right_at to v at h = all_vanish.0 v (left_at at) (right_at at) (to (left_at at) (right_at at) (at, h, refl, refl))

-- the difference of the sides that were made
pub difference_of_sides : (r : Fusion) (left right inside_left inside_right at_left at_right : List (List Symbol)) (made : List (List Symbol) × List (List Symbol)) (p : List Term) →
    left ≡ inside_left → right ≡ inside_right → ◌≡◌ {A = List (List Symbol) × List (List Symbol)} (inside_left, inside_right) made → made ≡ (at_left, at_right) → IsDifference r left right p → IsDifference r at_left at_right p
difference_of_sides r left right inside_left inside_right at_left at_right made p e g h k d =
    let same : ◌≡◌ {A = List (List Symbol) × List (List Symbol)} (inside_left, inside_right) (at_left, at_right) = h ∙ k in
    subst (λ l. IsDifference r l at_right p) (e ∙ ap (λ (s : List (List Symbol) × List (List Symbol)). s.0) same)
    (subst (λ l. IsDifference r left l p) (g ∙ ap (λ (s : List (List Symbol) × List (List Symbol)). s.1) same) d)

-- what a call of `differences` found at the labels of a list
pub differences_found : {L : Type 0} (r s : Fusion) (answers : L → Result (List (List Symbol) × List (List Symbol)) AllocError → Type 0) (Is : L → Type 0) (left_at right_at : L → List (List Symbol)) (all labels : List L) (ps : List (List Term)) →
    s ≡ r → IsListOf all Is → labels ≡ all → MakesSides answers left_at right_at → AreTheirDifferences s answers labels ps → AreDifferences r (EquationAt Is left_at right_at) ps
differences_found r s answers Is left_at right_at all labels ps same is e made found =
    differences_all r left_at right_at Is all labels ps is e (subst (λ t. AreDifferences t (EquationAt (Contains labels) left_at right_at) ps) same (found left_at right_at made))

-- an equation has one difference
pub one_difference : (r : Fusion) (left right : List (List Symbol)) (p q : List Term) → IsDifference r left right p → IsDifference r left right q → p ≡ q
one_difference r left right p q d e = same_polynomial p q d.0 e.0 (λ m. d.1 m ∙ back (e.1 m))

-- so the members of the list are exactly the differences of the equations
pub differences_contained : (r : Fusion) (IsEquation : List (List Symbol) → List (List Symbol) → Type 0) (ps : List (List Term)) → AreDifferences r IsEquation ps →
    (p : List Term) → Contains ps p ↔ ((left : List (List Symbol)) × (right : List (List Symbol)) × IsEquation left right × IsDifference r left right p)
differences_contained r IsEquation ps are p = (
  are.each p,
  λ e. let d = are.all e.0 e.1 e.2 in subst (λ q. Contains ps q) (one_difference r e.0 e.1 d.0 p d.2 e.3) d.1,
)
