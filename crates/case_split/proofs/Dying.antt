-- Which equations make a case dead.
use Rattle.std.specs.Prelude.{◌≡◌, ◌≢◌, ◌⊎◌, ◌<◌, ◌≤◌, ℕ, zero, suc, ◌+◌, ◌-◌, ◌/◌, ℤ, pos, negsuc, List, [], ◌∷◌, ◌++◌, refl}
use mathlib.Core.Logic.{inl, inr}
use Rattle.std.proofs.Common.{arith, subst, sym, ◌∙◌, ap}
use Rattle.std.proofs.lemmas.Bool.{cases_order}
use Rattle.std.proofs.lemmas.Cmp.{tied_itself}
use Rattle.std.proofs.lemmas.List.Elements.{Contains-append_left, Contains-append_right, Contains-append_cases}
use Rattle.std.specs.List.{Contains}
use Rattle.std.specs.Ordering.{ordering_reverse}
use Rattle.std.specs.declared.cmp.Ordering.TheVariants.{Less, Equal, Greater}
use Rattle.std.specs.declared.option.Option.TheVariants.{None}
use Rattle.monomial.specs.Monomials.{top, monomial_cmp, IsLower}
use Rattle.monomial.proofs.Lower.{IsLower-from_cmp}
use Rattle.sparse_poly.specs.declared.Term.{Term}
use Rattle.sparse_poly.specs.Polynomials.{constant}
use Rattle.sparse_poly.specs.Order.{poly_cmp}
use Rattle.sparse_poly.specs.OrderLaws.{poly_cmp-IsAntisymmetric, poly_cmp-IsTotalOrder}
use Rattle.sparse_poly.specs.Contributions.{IsPoly}
use Rattle.sparse_poly.specs.Reads.{main_variable}
use Rattle.sparse_poly.proofs.Ordered.{main_variable-leading}
use Rattle.derive_lines.specs.Refuting.{IsNonzeroConstant, IsContradiction}
use Rattle.case_rules.specs.Cases.{CaseState, known, poly, count}
use Rattle.case_rules.specs.Rules.{IsLeast, IsAlive, IsDeadAt}
use Rattle.case_rules.proofs.EndsBelong.{below_at}
use Rattle.case_rules.proofs.Regular.{constant_of}
use Rattle.case_split.specs.Found.{AreInOrder, IsFirstOf}
use Rattle.case_split.proofs.Due.{poly_of, nonzero_at}
use Rattle.case_split.proofs.Ordered.{leading_order}

one_contained : {X : Type 0} (x y : X) → Contains (x ∷ []) y → x ≡ y
one_contained x y (zero, l, e) = e
one_contained x y (suc k, l, e) = absurd (omega (arith, l))

contains_one : {X : Type 0} (x y : X) → x ≡ y → Contains (x ∷ []) y
contains_one x y e = (0, omega arith, e)

-- constants are below what has a variable
constant_main : (p : List Term) → IsNonzeroConstant p → main_variable p ≡ None
constant_main p h = ap main_variable h.is ∙ each h.number
  where
    each : (n : ℤ) → main_variable (constant n) ≡ None
    each (pos zero) = refl
    each (pos (suc n)) = refl
    each (negsuc n) = refl

no_lower : (a b : List (ℕ × ℕ)) → top b ≡ None → IsLower a b → ⊥
no_lower a [] e l = let s = l.smaller in absurd (omega (arith, s))
no_lower a (q ∷ qs) e l = absurd (cc e)

below_constant : (p q : List Term) → IsPoly p → IsPoly q → q ≢ [] → main_variable q ≡ None → poly_cmp p q ≡ Less → main_variable p ≡ None
below_constant [] q h i n e o = refl
below_constant (t ∷ ts) [] h i n e o = absurd (n refl)
below_constant (t ∷ ts) (u ∷ us) h i n e o = each (leading_order t ts u us o)
  where
    last : top u.monomial ≡ None
    last = sym (main_variable-leading u us i.falling) ∙ e

    each : (monomial_cmp t.monomial u.monomial ≡ Less) ⊎ (t.monomial ≡ u.monomial) → main_variable (t ∷ ts) ≡ None
    each (inl l) = absurd (no_lower t.monomial u.monomial last (IsLower-from_cmp t.monomial u.monomial h.monomials.0.powers i.monomials.0.powers l))
    each (inr same) = main_variable-leading t ts h.falling ∙ ap top same ∙ last

-- the first of more polynomials
pub first_of_more : (c : CaseState) (ns : List (List Term)) (p : List Term) (n r s : ℕ) → IsFirstOf c ns n r → IsFirstOf c (p ∷ []) r s → IsFirstOf c (ns ++ p ∷ []) n s
first_of_more c ns p n r s h g = record {
  within = (let a = h.within in let b = g.within in omega (arith, a, b));
  none_below = λ j l x. none j l (Contains-append_cases ns (p ∷ []) (poly c j) x);
  stands = λ d. stands d (cases_order s r);
}
  where
    none : (j : ℕ) → j < s → Contains ns (poly c j) ⊎ Contains (p ∷ []) (poly c j) → ⊥
    none j l (inl x) = h.none_below j (let b = g.within in omega (arith, l, b)) x
    none j l (inr x) = g.none_below j l x

    stands : s ≢ n → (s ≡ r) ⊎ ((s < r) ⊎ (r < s)) → Contains (ns ++ p ∷ []) (poly c s)
    stands d (inl e) = Contains-append_left ns (p ∷ []) (poly c s) (subst (λ i. Contains ns (poly c i)) (sym e) (h.stands (λ f. d (e ∙ f))))
    stands d (inr (inl l)) = Contains-append_right ns (p ∷ []) (poly c s) (g.stands (λ e. absurd (omega (arith, e, l))))
    stands d (inr (inr l)) = absurd (let b = g.within in omega (arith, b, l))

-- the middle of what is left
pub half_within : (low high : ℕ) → low < high → (low ≤ low + (high - low) / 2) × (low + (high - low) / 2 < high)
half_within low high l = (omega arith, omega (arith, l))

-- a polynomial that is above the equations before one place, and below those from another on
pub record IsBetween (c : CaseState) (p : List Term) (n low high : ℕ) : Type 0 where
  pub low_within : low ≤ high
  pub high_within : high ≤ n
  pub above : (j : ℕ) → j < low → poly_cmp (poly c j) p ≡ Less
  pub below : (j : ℕ) → high ≤ j → j < n → poly_cmp p (poly c j) ≡ Less

module _ (c : CaseState) (s : AreInOrder c) (p : List Term) (n : ℕ) (within : n ≤ count c) where
  up_to : (i j : ℕ) → j ≤ i → i < n → (poly_cmp (poly c j) (poly c i) ≡ Less) ⊎ (i ≡ j)
  up_to i j l k = each (cases_order i j)
    where
      each : (i ≡ j) ⊎ ((i < j) ⊎ (j < i)) → (poly_cmp (poly c j) (poly c i) ≡ Less) ⊎ (i ≡ j)
      each (inl e) = inr e
      each (inr (inl x)) = absurd (omega (arith, l, x))
      each (inr (inr x)) = inl (below_at [] c.equations j i s.ascending.ascending x (omega (arith, k, within)))

  not_less : (x y : List Term) → x ≡ y → poly_cmp x y ≡ Less → ⊥
  not_less x y e h = cc (sym h ∙ ap (poly_cmp x) (sym e) ∙ tied_itself poly_cmp-IsTotalOrder x)

  above_less : (i : ℕ) → i < n → poly_cmp (poly c i) p ≡ Less → (j : ℕ) → j < i + 1 → poly_cmp (poly c j) p ≡ Less
  above_less i k o j l = each (up_to i j (omega (arith, l)) k)
    where
      each : (poly_cmp (poly c j) (poly c i) ≡ Less) ⊎ (i ≡ j) → poly_cmp (poly c j) p ≡ Less
      each (inl x) = poly_cmp-IsTotalOrder.trans (poly c j) (poly c i) p x o
      each (inr e) = subst (λ i. poly_cmp (poly c i) p ≡ Less) e o

  pub between_above : (low high i : ℕ) → IsBetween c p n low high → i < high → poly_cmp (poly c i) p ≡ Less → IsBetween c p n (i + 1) high
  between_above low high i h l o = record {
    low_within = omega (arith, l);
    high_within = h.high_within;
    above = above_less i (let b = h.high_within in omega (arith, l, b)) o;
    below = h.below;
  }

  turned : (x : List Term) → poly_cmp x p ≡ Greater → poly_cmp p x ≡ Less
  turned x e = poly_cmp-IsTotalOrder.antisymm p x ∙ ap ordering_reverse e

  pub between_below : (low high i : ℕ) → IsBetween c p n low high → low ≤ i → i < high → poly_cmp (poly c i) p ≡ Greater → IsBetween c p n low i
  between_below low high i h l k o = record {
    low_within = l;
    high_within = (let b = h.high_within in omega (arith, k, b));
    above = h.above;
    below = λ j a b. each j b (up_to j i a b);
  }
    where
      each : (j : ℕ) → j < n → (poly_cmp (poly c i) (poly c j) ≡ Less) ⊎ (j ≡ i) → poly_cmp p (poly c j) ≡ Less
      each j b (inl x) = poly_cmp-IsTotalOrder.trans p (poly c i) (poly c j) (turned (poly c i) o) x
      each j b (inr e) = turned (poly c j) (subst (λ i. poly_cmp (poly c i) p ≡ Greater) (sym e) o)

  pub found_here : (low high i : ℕ) → IsBetween c p n low high → i < high → poly_cmp (poly c i) p ≡ Equal → IsFirstOf c (p ∷ []) n i
  found_here low high i h l o = record {
    within = (let b = h.high_within in omega (arith, l, b));
    none_below = λ j k x. none j k (one_contained p (poly c j) x) (up_to i j (omega (arith, k)) (let b = h.high_within in omega (arith, l, b)));
    stands = λ d. contains_one p (poly c i) (sym same);
  }
    where
      same : poly c i ≡ p
      same = poly_cmp-IsAntisymmetric (poly c i) p o

      none : (j : ℕ) → j < i → p ≡ poly c j → (poly_cmp (poly c j) (poly c i) ≡ Less) ⊎ (i ≡ j) → ⊥
      none j k e (inl x) = not_less (poly c j) (poly c i) (sym e ∙ sym same) x
      none j k e (inr y) = absurd (omega (arith, k, y))

  pub found_nowhere : (low high : ℕ) → IsBetween c p n low high → high ≤ low → IsFirstOf c (p ∷ []) n n
  found_nowhere low high h l = record {
    within = omega arith;
    none_below = λ j k x. each j k (one_contained p (poly c j) x) (cases_order j low);
    stands = λ d. absurd (d refl);
  }
    where
      each : (j : ℕ) → j < n → p ≡ poly c j → (j ≡ low) ⊎ ((j < low) ⊎ (low < j)) → ⊥
      each j k e (inl x) = not_less p (poly c j) e (h.below j (omega (arith, l, x)) k)
      each j k e (inr (inl x)) = not_less (poly c j) p (sym e) (h.above j x)
      each j k e (inr (inr x)) = not_less p (poly c j) e (h.below j (omega (arith, l, x)) k)

-- the ends of the search
module _ (c : CaseState) (s : AreInOrder c) where
  no_constant : (i : ℕ) → i < count c → ¬ IsNonzeroConstant (poly c 0) → ¬ IsNonzeroConstant (poly c i)
  no_constant i l n h = each (cases_order i 0)
    where
      first : 0 < count c
      first = omega (arith, l)

      each : (i ≡ 0) ⊎ ((i < 0) ⊎ (0 < i)) → ⊥
      each (inl e) = n (subst (λ i. IsNonzeroConstant (poly c i)) e h)
      each (inr (inl x)) = absurd (omega (arith, x))
      each (inr (inr x)) =
          n (constant_of (poly c 0) (poly_of c s 0 first) (nonzero_at c s 0 first)
          (below_constant (poly c 0) (poly c i) (poly_of c s 0 first) (poly_of c s i l) (nonzero_at c s i l) (constant_main (poly c i) h) (below_at [] c.equations 0 i s.ascending.ascending x l)))

  not_dead : (i : ℕ) → ¬ IsNonzeroConstant (poly c 0) → ¬ Contains (known c) (poly c i) → ¬ IsDeadAt c i
  not_dead i n m h = each h.contradiction
    where
      each : IsContradiction (known c) (poly c i) → ⊥
      each (inl x) = no_constant i h.place n x
      each (inr x) = m x

  pub alive_by : (p : List Term) (n r : ℕ) → p ≡ poly c 0 → ¬ IsNonzeroConstant p → IsFirstOf c (known c) n r → count c ≤ r → IsAlive c
  alive_by p n r e h f l i x = not_dead i (λ k. h (subst IsNonzeroConstant (sym e) k)) (f.none_below i (let k = x.place in omega (arith, l, k))) x

  pub dead_by : (p : List Term) (n r : ℕ) → p ≡ poly c 0 → ¬ IsNonzeroConstant p → IsFirstOf c (known c) n r → n ≡ count c → r ≢ n → IsLeast (IsDeadAt c) r
  dead_by p n r e h f g d = record {
    has = record { place = place (cases_order r n); contradiction = inr (f.stands d) };
    none_below = λ j l. not_dead j (λ k. h (subst IsNonzeroConstant (sym e) k)) (f.none_below j l);
  }
    where
      place : (r ≡ n) ⊎ ((r < n) ⊎ (n < r)) → r < count c
      place (inl x) = absurd (d x)
      place (inr (inl x)) = omega (arith, x, g)
      place (inr (inr x)) = let b = f.within in absurd (omega (arith, b, x))
