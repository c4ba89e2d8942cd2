-- A symbol minus its value: its contributions are light, and in every field it vanishes exactly where the symbol has the value.
use Rattle.std.specs.Prelude.{◌≡◌, ◌<◌, ◌≤◌, ◌+◌, ◌↔◌, ℕ, zero, suc, Bool, true, false, if◌then◌else◌, ℤ, pos, negsuc, neg_ℤ, ◌+ℤ◌, unsigned_abs, List, [], ◌∷◌, ◌++◌, All, Contains, take, length, refl}
use Rattle.std.proofs.Common.{arith, sym as back, ◌∙◌, ap, subst, inl, inr, get_or}
use Rattle.std.proofs.lemmas.Int.{ints}
use Rattle.std.proofs.lemmas.List.{take_more}
use Rattle.std.proofs.lemmas.List.Elements.{All-contains, All-contains_itself, All-weaker, Contains-append_left, Contains-push, Contains-push_cases}
use Rattle.std.specs.Ordering.{is_eq}
use Rattle.field_laws.specs.Field.{Field, IsField, AllElements, whole}
use Rattle.field_laws.proofs.FieldSteps.{whole_is, same_of_difference, difference_of_same}
use Rattle.monomial.specs.Monomials.{monomial_cmp}
use Rattle.sparse_poly.specs.declared.Term.{Term}
use Rattle.sparse_poly.specs.Polynomials.{eval, coefficient, weight, is_of, negated, constant}
use Rattle.sparse_poly.specs.Contributions.{max_coeff, IsHeaviest, IsResult}
use Rattle.sparse_poly.proofs.Evaluation.{eval-append, eval-same, eval-negated}
use Rattle.fusion_ring.specs.Fusion.{Fusion}
use Rattle.symbol_index.specs.declared.GaugeEntry.{GaugeEntry}
use Rattle.symbol_index.specs.declared.Standing.TheVariants.{Unknown}
use Rattle.symbol_index.specs.Symbols.{standing}
use Rattle.symbol_equations.specs.Values.{symbol_value}
use Rattle.symbol_equations.specs.Differences.{symbol_terms}
use Rattle.symbol_equations.proofs.Vanishing.{value_is, eval-standing}
use Rattle.gauge_fix.specs.Gauge.{Gauge, IsGaugeDifference, AreGaugeDifferences}

-- the terms as the code collects them
abbrev pub fixed_terms : ℕ → ℤ → List Term
fixed_terms i v = record { monomial = (i, 1) ∷ []; coeff = pos 1 } ∷ record { monomial = []; coeff = neg_ℤ v } ∷ []

size-neg : (v : ℤ) → unsigned_abs (neg_ℤ v) ≡ unsigned_abs v
size-neg v = omega (arith, ints)

at_most_one : (b : Bool) → (if b then 1 else 0) + (0 + 0) ≤ max_coeff
at_most_one true = omega arith
at_most_one false = omega arith

light : (i : ℕ) (v : ℤ) (m : List (ℕ × ℕ)) → unsigned_abs v ≤ max_coeff → weight (fixed_terms i v) m ≤ max_coeff
light i v [] h = let e = size-neg v in omega arith
light i v (p ∷ ps) h = at_most_one (is_eq (monomial_cmp (p ∷ ps) ((i, 1) ∷ [])))

pub fixed_not_heavy : (i : ℕ) (v : ℤ) (cs : List Term) (m : List (ℕ × ℕ)) → cs ≡ fixed_terms i v → unsigned_abs v ≤ max_coeff → IsHeaviest cs m → ⊥
fixed_not_heavy i v cs m e h heaviest = let l = light i v m h in let g = rw e at heaviest.heavy in omega arith

-- a constant with a coefficient that may be 0
one_coefficient : (v : ℤ) (m : List (ℕ × ℕ)) → coefficient (record { monomial = []; coeff = neg_ℤ v } ∷ []) m ≡ coefficient (negated (constant v)) m
one_coefficient (pos zero) m = zero_term (is_eq (monomial_cmp m []))
  where
    zero_term : (b : Bool) → (if b then pos 0 else pos 0) +ℤ pos 0 ≡ pos 0
    zero_term true = refl
    zero_term false = refl
one_coefficient (pos (suc n)) m = refl
one_coefficient (negsuc n) m = refl

pub fixed_difference : (r : Fusion) (e : GaugeEntry) (i : ℕ) (cs p : List Term) → standing r e.symbol ≡ Unknown i → cs ≡ fixed_terms i e.value → IsResult cs p → IsGaugeDifference r e p
fixed_difference r e i cs p s c h = (h.poly, λ m. h.sums m ∙ ap (λ ts. coefficient ts m) c ∙ same m)
  where
    unknown : Term
    unknown = record { monomial = (i, 1) ∷ []; coeff = pos 1 }

    same : (m : List (ℕ × ℕ)) → coefficient (fixed_terms i e.value) m ≡ coefficient (symbol_terms r e.symbol ++ negated (constant e.value)) m
    same m = rw s (ap (λ z. (if is_of m (record { monomial = (i, 1) ∷ []; coeff = pos 1 }) then pos 1 else pos 0) +ℤ z) (one_coefficient e.value m))

module _ {E : Type 0} (f : Field E) (l : IsField f) (x : List E) (elements : AllElements f x) (r : Fusion) where
  open f use {plus, minus, times}

  eval-constant : (v : ℤ) → eval f x (constant v) ≡ whole f v
  eval-constant (pos zero) = refl
  eval-constant (pos (suc n)) = l.plus-zero _ (l.times_is _ _ (whole_is f l (pos (suc n))) l.one_is) ∙ l.times-one _ (whole_is f l (pos (suc n)))
  eval-constant (negsuc n) = l.plus-zero _ (l.times_is _ _ (whole_is f l (negsuc n)) l.one_is) ∙ l.times-one _ (whole_is f l (negsuc n))

  eval-fixed : (e : GaugeEntry) (p : List Term) → IsGaugeDifference r e p → eval f x p ≡ plus (symbol_value f r x e.symbol) (minus (whole f e.value))
  eval-fixed e p d =
      eval-same f l x elements p _ d.1
      ∙ eval-append f l x elements (symbol_terms r e.symbol) (negated (constant e.value))
      ∙ ap (λ y. plus y (eval f x (negated (constant e.value)))) (eval-standing f l x elements r (standing r e.symbol))
      ∙ ap (λ y. plus (symbol_value f r x e.symbol) y) (eval-negated f l x elements (constant e.value) ∙ ap minus (eval-constant e.value))

  fixed_vanishes : (e : GaugeEntry) (p : List Term) → IsGaugeDifference r e p → (eval f x p ≡ f.zero) ↔ (symbol_value f r x e.symbol ≡ whole f e.value)
  fixed_vanishes e p d = (
    λ h. same_of_difference f l _ _ (value_is f l x elements r e.symbol) (whole_is f l e.value) (back (eval-fixed e p d) ∙ h),
    λ h. eval-fixed e p d ∙ difference_of_same f l _ _ (value_is f l x elements r e.symbol) h,
  )

  pub all_fixed : (gauge : List GaugeEntry) (ps : List (List Term)) → AreGaugeDifferences r gauge ps → All (λ p. eval f x p ≡ f.zero) ps ↔ Gauge f (symbol_value f r x) gauge
  all_fixed gauge ps are = (
    λ v.
        All-weaker (Contains gauge) (λ e. symbol_value f r x e.symbol ≡ whole f e.value)
        (λ e m. let d = are.all e m in (fixed_vanishes e d.0 d.2).0 (All-contains (λ p. eval f x p ≡ f.zero) ps d.0 v d.1)) gauge (All-contains_itself gauge),
    λ h.
        All-weaker (Contains ps) (λ p. eval f x p ≡ f.zero)
        (λ p m. let d = are.each p m in (fixed_vanishes d.0 p d.2).1 (All-contains (λ e. symbol_value f r x e.symbol ≡ whole f e.value) gauge d.0 h d.1)) ps (All-contains_itself ps),
  )

none_contained : {X : Type 0} (x : X) → Contains [] x → ⊥
none_contained x h = omega (arith, h.1)

pub fixed_none : (r : Fusion) → AreGaugeDifferences r [] []
fixed_none r = record { each = λ p m. absurd (none_contained p m); all = λ e m. absurd (none_contained e m) }

fixed_push : (r : Fusion) (es : List GaugeEntry) (e : GaugeEntry) (ps : List (List Term)) (p : List Term) → AreGaugeDifferences r es ps → IsGaugeDifference r e p → AreGaugeDifferences r (es ++ e ∷ []) (ps ++ p ∷ [])
fixed_push r es e ps p are d = record {
  each = λ q m. elim (Contains-push_cases ps p q m) [
    | inl i ↦ let o = are.each q i in (o.0, Contains-append_left es (e ∷ []) o.0 o.1, o.2)
    | inr s ↦ (e, Contains-push es e, subst (IsGaugeDifference r e) s d)
  ];
  all = λ g m. elim (Contains-push_cases es e g m) [
    | inl i ↦ let o = are.all g i in (o.0, Contains-append_left ps (p ∷ []) o.0 o.1, o.2)
    | inr s ↦ (p, Contains-push ps p, subst (λ z. IsGaugeDifference r z p) s d)
  ];
}

-- the step of a loop over the entries
pub fixed_more : (r : Fusion) (gauge : List GaugeEntry) (i : ℕ) (e : GaugeEntry) (ps qs : List (List Term)) (p : List Term) → i < length gauge → e ≡ get_or gauge i e → qs ≡ ps ++ p ∷ [] →
    AreGaugeDifferences r (take i gauge) ps → IsGaugeDifference r e p → AreGaugeDifferences r (take (i + 1) gauge) qs
fixed_more r gauge i e ps qs p h s q are d =
    let taken : take (i + 1) gauge ≡ take i gauge ++ e ∷ [] = rw (take_more gauge i e h, ← s) refl in
    rw (taken, q) (fixed_push r (take i gauge) e ps p are d)
