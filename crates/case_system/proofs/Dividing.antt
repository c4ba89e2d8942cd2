-- Which variables divide a polynomial.
use Rattle.std.specs.Prelude.{◌≡◌, ◌≢◌, ◌⊎◌, ◌<◌, ◌≤◌, ℕ, zero, suc, ◌+◌, ◌==◌, true, false, List, [], ◌∷◌, length, slice_get, slice_index_or}
use mathlib.Core.Logic.{inl, inr}
use Rattle.std.proofs.Common.{arith, subst, sym, ap}
use Rattle.std.proofs.lemmas.Bool.{cases_order}
use Rattle.std.proofs.lemmas.Bool.Decides.{eqb_tells}
use Rattle.std.specs.declared.option.Option.TheVariants.{Some}
use Rattle.monomial.specs.Monomials.{exponent, IsBelow, IsPowers}
use Rattle.monomial.proofs.Exponents.{exponent_there}
use Rattle.sparse_poly.specs.declared.Term.{Term}
use Rattle.sparse_poly.specs.Clearing.{IsDividedBy}
use Rattle.case_rules.specs.Rules.{None_has, IsLowestDividing}

-- a variable that occurs has a place, and places fall
place_of_variable : (m : List (ℕ × ℕ)) (v : ℕ) → 0 < exponent m v → (j : ℕ) × (j < length m) × ((slice_index_or m j (0, 0)).0 ≡ v)
place_of_variable [] v l = absurd (omega (arith, l))
place_of_variable (p ∷ ps) v l = each (eqb_tells p.0 v) (place_of_variable ps v)
  where
    each : ((p.0 == v) ≡ true) × (p.0 ≡ v) ⊎ ((p.0 == v) ≡ false) × (p.0 ≢ v) → (0 < exponent ps v → (j : ℕ) × (j < length ps) × ((slice_index_or ps j (0, 0)).0 ≡ v)) → (j : ℕ) × (j < length (p ∷ ps)) × ((slice_index_or (p ∷ ps) j (0, 0)).0 ≡ v)
    each (inl x) f = (0, omega arith, x.1)
    each (inr x) f = let o = exponent_there p ps v x.1 in let r = f (omega (arith, l, o)) in (suc r.0, (let k = r.1 in omega (arith, k)), r.2)

below_first : (w : ℕ) (ps : List (ℕ × ℕ)) (j : ℕ) → IsBelow w ps → j < length ps → (slice_index_or ps j (0, 0)).0 < w
below_first w [] j b l = absurd (omega (arith, l))
below_first w (p ∷ ps) zero b l = b.0
below_first w (p ∷ ps) (suc j) b l = below_first w ps j b.1 (omega (arith, l))

places_fall : (m : List (ℕ × ℕ)) (i j : ℕ) → IsPowers m → i < j → j < length m → (slice_index_or m j (0, 0)).0 < (slice_index_or m i (0, 0)).0
places_fall [] i j h k l = absurd (omega (arith, l))
places_fall (p ∷ ps) i zero h k l = absurd (omega (arith, k))
places_fall (p ∷ ps) zero (suc j) h k l = below_first p.0 ps j h.1 (omega (arith, l))
places_fall (p ∷ ps) (suc i) (suc j) h k l = places_fall ps i j h.2 (omega (arith, k)) (omega (arith, l))

-- no variable at these places of the leading monomial divides
abbrev pub None_divides_from : List Term → List (ℕ × ℕ) → ℕ → Type 0
None_divides_from p m i = (j : ℕ) → i ≤ j → j < length m → IsDividedBy (slice_index_or m j (0, 0)).0 p → ⊥

-- a variable that divides a polynomial occurs in each term
divides_term : (v : ℕ) (p : List Term) (k : ℕ) (t : Term) → Some t ≡ slice_get p k → IsDividedBy v p → 0 < exponent t.monomial v
divides_term v [] k t e d = absurd (cc e)
divides_term v (u ∷ us) zero t e d = let same : t ≡ u = cc e in subst (λ (t : Term). 0 < exponent t.monomial v) (sym same) d.0
divides_term v (u ∷ us) (suc k) t e d = divides_term v us k t e d.1

pub no_variable_divides : (p : List Term) (k : ℕ) (t : Term) → Some t ≡ slice_get p k → None_divides_from p t.monomial 0 → None_has (λ v. IsDividedBy v p)
no_variable_divides p k t e n v d =
    let r = place_of_variable t.monomial v (divides_term v p k t e d) in
    n r.0 (omega arith) r.1 (subst (λ w. IsDividedBy w p) (sym r.2) d)

pub lowest_at : (p : List Term) (k : ℕ) (t : Term) (i : ℕ) → Some t ≡ slice_get p k → IsPowers t.monomial → i < length t.monomial → None_divides_from p t.monomial (i + 1) → IsDividedBy (slice_index_or t.monomial i (0, 0)).0 p → IsLowestDividing p (slice_index_or t.monomial i (0, 0)).0
lowest_at p k t i e h l n d = record { has = d; none_below = λ w b g. below w b g }
  where
    below : (w : ℕ) → w < (slice_index_or t.monomial i (0, 0)).0 → IsDividedBy w p → ⊥
    below w b g = let r = place_of_variable t.monomial w (divides_term w p k t e g) in each r.0 r.1 r.2 (cases_order r.0 i)
      where
        each : (j : ℕ) → j < length t.monomial → (slice_index_or t.monomial j (0, 0)).0 ≡ w → (j ≡ i) ⊎ ((j < i) ⊎ (i < j)) → ⊥
        each j lj ej (inl x) = absurd (omega (arith, b, ej, ap (λ j. (slice_index_or t.monomial j (0, 0)).0) x))
        each j lj ej (inr (inl x)) = let f = places_fall t.monomial j i h x l in absurd (omega (arith, b, ej, f))
        each j lj ej (inr (inr x)) = n j (omega (arith, x)) lj (subst (λ w. IsDividedBy w p) (sym ej) g)

pub none_more_divides : (p : List Term) (m : List (ℕ × ℕ)) (i : ℕ) → None_divides_from p m (i + 1) → (IsDividedBy (slice_index_or m i (0, 0)).0 p → ⊥) → None_divides_from p m i
none_more_divides p m i n d j a b = each (cases_order j i)
  where
    each : (j ≡ i) ⊎ ((j < i) ⊎ (i < j)) → IsDividedBy (slice_index_or m j (0, 0)).0 p → ⊥
    each (inl x) g = d (subst (λ j. IsDividedBy (slice_index_or m j (0, 0)).0 p) x g)
    each (inr (inl x)) g = absurd (omega (arith, a, x))
    each (inr (inr x)) g = n j (omega (arith, x)) b g
