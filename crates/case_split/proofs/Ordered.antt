-- Equations that ascend: their main variables and degrees.
use Rattle.std.specs.Prelude.{◌≡◌, ◌≢◌, ◌⊎◌, ◌<◌, ◌≤◌, ℕ, ◌+◌, List, [], ◌∷◌, refl}
use mathlib.Core.Logic.{inl, inr}
use Rattle.std.proofs.Common.{arith, subst, sym, ◌∙◌, ap}
use Rattle.std.proofs.lemmas.Bool.{cases_order}
use Rattle.std.specs.List.{AllByRecursion}
use Rattle.std.specs.Ordering.{ordering_then, int_cmp}
use Rattle.std.specs.declared.cmp.Ordering.{Ordering}
use Rattle.std.specs.declared.cmp.Ordering.TheVariants.{Less, Equal, Greater}
use Rattle.std.specs.declared.option.Option.{Option}
use Rattle.std.specs.declared.option.Option.TheVariants.{None, Some}
use Rattle.monomial.specs.Monomials.{exponent, top, monomial_cmp, IsMonomial, IsPowers, IsLower}
use Rattle.monomial.proofs.Greatest.{top-greatest}
use Rattle.monomial.proofs.Lower.{IsLower-from_cmp}
use Rattle.monomial.proofs.Total.{monomial_cmp-IsAntisymmetric, monomial_cmp-IsTotalOrder}
use Rattle.sparse_poly.specs.declared.Term.{Term}
use Rattle.sparse_poly.specs.Order.{poly_cmp}
use Rattle.sparse_poly.specs.Contributions.{IsPoly}
use Rattle.sparse_poly.specs.Reads.{degree_in, main_variable}
use Rattle.sparse_poly.proofs.Descending.{all_map}
use Rattle.sparse_poly.proofs.Ordered.{main_variable-leading}
use Rattle.case_rules.specs.Cases.{CaseState, poly, count}
use Rattle.case_rules.specs.Rules.{IsLinearIn, IsOtherWith, IsLinearAt, HasMain, IsPaired, IsOtherMain}
use Rattle.case_rules.proofs.EndsBelong.{below_at}
use Rattle.case_rules.proofs.Regular.{polys_at, polys_length}
use Rattle.case_split.specs.Found.{None_below, AreInOrder, HaveMain, IsPair, IsFirstWith}
use Rattle.case_split.specs.declared.linear.Passed.{Passed}
use Rattle.case_split.specs.Searched.{IsPassed}
use Rattle.case_split.proofs.LeadingTerms.{alone, lower_zero, linear_leading, linear_alone, top_exponent, leading_degree_in}

lower_variable : (a b : List (ℕ × ℕ)) (v w : ℕ) → IsPowers a → IsPowers b → top a ≡ Some v → top b ≡ Some w → IsLower a b → v ≤ w
lower_variable a b v w h i e f l = each (cases_order v w)
  where
    higher : w < v → ⊥
    higher k = by (cases_order l.at v)
      where
        by : (l.at ≡ v) ⊎ ((l.at < v) ⊎ (v < l.at)) → ⊥
        by (inl same) = let s = l.smaller in let z = (top-greatest b w i f).greatest l.at (omega (arith, same, k)) in absurd (omega (arith, s, z))
        by (inr (inl below)) = let s = l.same v below in let z = (top-greatest b w i f).greatest v k in let o = (top-greatest a v h e).above in absurd (omega (arith, s, z, o))
        by (inr (inr above)) = let s = l.smaller in let z = (top-greatest b w i f).greatest l.at (omega (arith, above, k)) in absurd (omega (arith, s, z))

    each : (v ≡ w) ⊎ ((v < w) ⊎ (w < v)) → v ≤ w
    each (inl x) = omega (arith, x)
    each (inr (inl x)) = omega (arith, x)
    each (inr (inr x)) = absurd (higher x)

-- of two polynomials in order the leading monomials are in order
pub leading_order : (t : Term) (ts : List Term) (u : Term) (us : List Term) → poly_cmp (t ∷ ts) (u ∷ us) ≡ Less → (monomial_cmp t.monomial u.monomial ≡ Less) ⊎ (t.monomial ≡ u.monomial)
leading_order t ts u us e = each (monomial_cmp t.monomial u.monomial) refl e
  where
    each : (o : Ordering) → monomial_cmp t.monomial u.monomial ≡ o → ordering_then (ordering_then o (int_cmp t.coeff u.coeff)) (poly_cmp ts us) ≡ Less → (monomial_cmp t.monomial u.monomial ≡ Less) ⊎ (t.monomial ≡ u.monomial)
    each Less f g = inl f
    each Equal f g = inr (monomial_cmp-IsAntisymmetric t.monomial u.monomial f)
    each Greater f g = absurd (cc g)

no_main : (v : ℕ) → main_variable [] ≡ Some v → ⊥
no_main v e = cc e

main_rises : (p q : List Term) (v w : ℕ) → IsPoly p → IsPoly q → poly_cmp p q ≡ Less → main_variable p ≡ Some v → main_variable q ≡ Some w → v ≤ w
main_rises [] q v w h i o e f = absurd (no_main v e)
main_rises (t ∷ ts) [] v w h i o e f = absurd (no_main w f)
main_rises (t ∷ ts) (u ∷ us) v w h i o e f = each (leading_order t ts u us o)
  where
    first : top t.monomial ≡ Some v
    first = sym (main_variable-leading t ts h.falling) ∙ e

    second : top u.monomial ≡ Some w
    second = sym (main_variable-leading u us i.falling) ∙ f

    each : (monomial_cmp t.monomial u.monomial ≡ Less) ⊎ (t.monomial ≡ u.monomial) → v ≤ w
    each (inl l) = lower_variable t.monomial u.monomial v w h.monomials.0.powers i.monomials.0.powers first second (IsLower-from_cmp t.monomial u.monomial h.monomials.0.powers i.monomials.0.powers l)
    each (inr same) = let x : Some v ≡ Some w = sym first ∙ ap top same ∙ second in let y : v ≡ w = cc x in omega (arith, y)

degree_rises : (p q : List Term) (v : ℕ) → IsPoly p → IsPoly q → poly_cmp p q ≡ Less → main_variable p ≡ Some v → main_variable q ≡ Some v → degree_in v p ≤ degree_in v q
degree_rises [] q v h i o e f = absurd (no_main v e)
degree_rises (t ∷ ts) [] v h i o e f = absurd (no_main v f)
degree_rises (t ∷ ts) (u ∷ us) v h i o e f = each (leading_order t ts u us o)
  where
    first : top t.monomial ≡ Some v
    first = sym (main_variable-leading t ts h.falling) ∙ e

    second : top u.monomial ≡ Some v
    second = sym (main_variable-leading u us i.falling) ∙ f

    own : exponent t.monomial v ≤ exponent u.monomial v → degree_in v (t ∷ ts) ≤ degree_in v (u ∷ us)
    own l = let a = leading_degree_in t ts v h first in let b = leading_degree_in u us v i second in omega (arith, l, a, b)

    each : (monomial_cmp t.monomial u.monomial ≡ Less) ⊎ (t.monomial ≡ u.monomial) → degree_in v (t ∷ ts) ≤ degree_in v (u ∷ us)
    each (inl l) = own (top_exponent t.monomial u.monomial v i.monomials.0.powers second (IsLower-from_cmp t.monomial u.monomial h.monomials.0.powers i.monomials.0.powers l))
    each (inr same) = own (let x = ap (λ m. exponent m v) same in omega (arith, x))

-- what is below a polynomial that is linear in its main variable has not this variable, or is linear in it as well
module _ (v : ℕ) where
  falls_below : (m : List (ℕ × ℕ)) (ts : List Term) → monomial_cmp m (alone v) ≡ Less → AllByRecursion (λ (u : Term). monomial_cmp u.monomial m ≡ Less) ts → AllByRecursion (λ (u : Term). monomial_cmp u.monomial (alone v) ≡ Less) ts
  falls_below m ts l h = all_map (λ (u : Term). monomial_cmp u.monomial m ≡ Less) (λ (u : Term). monomial_cmp u.monomial (alone v) ≡ Less) ts (λ u k. monomial_cmp-IsTotalOrder.trans u.monomial m (alone v) k l) h

  absent : (ts : List Term) → AllByRecursion (λ (u : Term). IsMonomial u.monomial) ts → AllByRecursion (λ (u : Term). monomial_cmp u.monomial (alone v) ≡ Less) ts → degree_in v ts ≡ 0
  absent [] h l = refl
  absent (u ∷ us) h l = let first = lower_zero u.monomial v h.0.powers l.0 in let rest = absent us h.1 l.1 in omega (arith, first, rest)

  pub linear_before : (p q : List Term) → IsPoly p → IsPoly q → poly_cmp p q ≡ Less → IsLinearIn q v → 0 < degree_in v p → IsLinearIn p v
  linear_before [] q h i o l d = absurd (omega (arith, d))
  linear_before (t ∷ ts) [] h i o l d = absurd (no_main v l.main)
  linear_before (t ∷ ts) (u ∷ us) h i o l d = each (leading_order t ts u us o)
    where
      own : u.monomial ≡ alone v
      own = linear_alone u us v i l

      each : (monomial_cmp t.monomial u.monomial ≡ Less) ⊎ (t.monomial ≡ u.monomial) → IsLinearIn (t ∷ ts) v
      each (inr same) = linear_leading t ts v h (same ∙ own)
      each (inl k) =
          let low : monomial_cmp t.monomial (alone v) ≡ Less = subst (λ m. monomial_cmp t.monomial m ≡ Less) own k in
          let none = absent (t ∷ ts) h.monomials (low, falls_below t.monomial ts low h.falling.0) in
          absurd (omega (arith, d, none))

Some_injective : (v w : ℕ) → Some v ≡ Some w → v ≡ w
Some_injective v w e = cc e

-- no equation from place i on has its main variable with an earlier one
abbrev pub None_paired_from : CaseState → ℕ → Type 0
None_paired_from c i = (a b v : ℕ) → i ≤ b → a < b → HasMain c v a → HasMain c v b → ⊥

-- the equations from p up to i have the main variable of equation i
pub record Have (c : CaseState) (v i p : ℕ) : Type 0 where
  pub up_to : p ≤ i
  pub have : (j : ℕ) → p ≤ j → j ≤ i → HasMain c v j

module _ (c : CaseState) (s : AreInOrder c) where
  poly_at : (i : ℕ) → i < count c → IsPoly (poly c i)
  poly_at i l = subst IsPoly (polys_at c.equations i [] l) (s.polys i [] (omega (arith, l, polys_length c.equations)))

  -- a later equation has no lower main variable, and with the same one no lower degree in it
  pub later_main : (i j v w : ℕ) → i ≤ j → HasMain c v i → HasMain c w j → v ≤ w
  later_main i j v w l a b = each (cases_order i j)
    where
      each : (i ≡ j) ⊎ ((i < j) ⊎ (j < i)) → v ≤ w
      each (inl e) = let x = Some_injective v w (sym a.main ∙ ap (λ i. main_variable (poly c i)) e ∙ b.main) in omega (arith, x)
      each (inr (inl k)) = main_rises (poly c i) (poly c j) v w (poly_at i a.place) (poly_at j b.place) (below_at [] c.equations i j s.ascending.ascending k b.place) a.main b.main
      each (inr (inr k)) = absurd (omega (arith, l, k))

  later_degree : (i j v : ℕ) → i < j → HasMain c v i → HasMain c v j → degree_in v (poly c i) ≤ degree_in v (poly c j)
  later_degree i j v k a b = degree_rises (poly c i) (poly c j) v (poly_at i a.place) (poly_at j b.place) (below_at [] c.equations i j s.ascending.ascending k b.place) a.main b.main

  -- an equation before one that is linear, where none before it is due by Linear, does not contain its variable
  pub none_before : (p q v : ℕ) → p < count c → IsLinearIn (poly c p) v → None_below (IsLinearAt c) p → q < p → IsOtherWith c p v q → ⊥
  none_before p q v l h n k x = n q k (record {
    place = x.place;
    v = v;
    linear = linear_before v (poly c q) (poly c p) (poly_at q x.place) (poly_at p l) (below_at [] c.equations q p s.ascending.ascending k l) h x.contains;
    q = p;
    other = record { place = l; other = λ e. x.other (sym e); contains = (let d = h.degree in omega (arith, d)) };
  })

  -- of the equations that are passed only this one contains its variable
  pub none_passed : (p v : ℕ) (passed : Passed) → p < count c → IsLinearIn (poly c p) v → passed.var ≡ v → p < passed.first → IsPassed c passed → None_below (IsOtherWith c p v) passed.first
  none_passed p v passed l h e k a j b x = x.other (a j p (record {
    passed = b;
    place = x.place;
    contains = subst (λ w. 0 < degree_in w (poly c j)) (sym e) x.contains;
  }) (record { passed = k; place = l; contains = subst (λ w. 0 < degree_in w (poly c p)) (sym e) (let d = h.degree in omega (arith, d)) }))

  some_main : (o : Option ℕ) → o ≢ None → (v : ℕ) × (o ≡ Some v)
  some_main None n = absurd (n refl)
  some_main (Some v) n = (v, refl)

  pub none_more_paired : (i j v : ℕ) → i ≡ j + 1 → HaveMain c → None_paired_from c (i + 1) → HasMain c v i → main_variable (poly c j) ≢ Some v → None_paired_from c i
  none_more_paired i j v g m n h d a b w l k x y = each (cases_order b i)
    where
      each : (b ≡ i) ⊎ ((b < i) ⊎ (i < b)) → ⊥
      each (inl e) =
          let place : j < count c = let p = h.place in omega (arith, g, p) in
          let u = some_main (main_variable (poly c j)) (m j place) in
          let between : HasMain c u.0 j = record { place = place; main = u.1 } in
          let up : w ≤ u.0 = later_main a j w u.0 (omega (arith, k, e, g)) x between in
          let down : u.0 ≤ v = later_main j i u.0 v (omega (arith, g)) between h in
          let same : w ≡ v = Some_injective w v (sym y.main ∙ ap (λ i. main_variable (poly c i)) e ∙ h.main) in
          let own : u.0 ≡ v = omega (arith, up, down, same) in
          d (u.1 ∙ ap Some own)
      each (inr (inl z)) = absurd (omega (arith, l, z))
      each (inr (inr z)) = n a b w (omega (arith, z)) k x y

  pub paired_at : (i j p v : ℕ) → i ≡ j + 1 → None_paired_from c (i + 1) → HasMain c v i → HasMain c v j → IsFirstWith c v j p → IsPair c (p + 1) p v
  paired_at i j p v g n h k f = record {
    highest = record {
      has = record { first = j; second = i; apart = omega (arith, g); first_has = k; second_has = h };
      none_above = λ w a x. above w a x (cases_order x.second i);
    };
    pivot = record { has = own; least = λ o x d. least o x d (cases_order o p) };
    least_other = record {
      has = record { has = next (cases_order p j); other = λ e. absurd (omega (arith, e)) };
      none_below = λ o a x. below o a x (cases_order o p);
    };
  }
    where
      own : HasMain c v p
      own = f.have p (omega arith) f.up_to

      above : (w : ℕ) → v < w → (x : IsPaired c w) → (x.second ≡ i) ⊎ ((x.second < i) ⊎ (i < x.second)) → ⊥
      above w a x (inl e) = let l = later_main x.second i w v (omega (arith, e)) x.second_has h in absurd (omega (arith, a, l))
      above w a x (inr (inl e)) = let l = later_main x.second i w v (omega (arith, e)) x.second_has h in absurd (omega (arith, a, l))
      above w a x (inr (inr e)) = n x.first x.second w (omega (arith, e)) x.apart x.first_has x.second_has

      split : (d e p o : ℕ) → d ≤ e → p < o → (d < e) ⊎ ((d ≡ e) × (p < o))
      split d e p o l k = by (cases_order d e)
        where
          by : (d ≡ e) ⊎ ((d < e) ⊎ (e < d)) → (d < e) ⊎ ((d ≡ e) × (p < o))
          by (inl x) = inr (x, k)
          by (inr (inl x)) = inl x
          by (inr (inr x)) = absurd (omega (arith, l, x))

      least : (o : ℕ) → HasMain c v o → o ≢ p → (o ≡ p) ⊎ ((o < p) ⊎ (p < o)) → (degree_in v (poly c p) < degree_in v (poly c o)) ⊎ ((degree_in v (poly c p) ≡ degree_in v (poly c o)) × (p < o))
      least o x d (inl e) = absurd (d e)
      least o x d (inr (inl e)) = absurd (f.before o e x)
      least o x d (inr (inr e)) = split (degree_in v (poly c p)) (degree_in v (poly c o)) p o (later_degree p o v e own x) e

      next : (p ≡ j) ⊎ ((p < j) ⊎ (j < p)) → HasMain c v (p + 1)
      next (inl e) = subst (HasMain c v) (let x : i ≡ p + 1 = omega (arith, g, e) in x) h
      next (inr (inl e)) = f.have (p + 1) (omega arith) (omega (arith, e))
      next (inr (inr e)) = let u = f.up_to in absurd (omega (arith, u, e))

      below : (o : ℕ) → o < p + 1 → IsOtherMain c p v o → (o ≡ p) ⊎ ((o < p) ⊎ (p < o)) → ⊥
      below o a x (inl e) = x.other e
      below o a x (inr (inl e)) = f.before o e x.has
      below o a x (inr (inr e)) = absurd (omega (arith, a, e))

  pub first_here : (v i p n : ℕ) → p ≡ n + 1 → HaveMain c → Have c v i p → main_variable (poly c n) ≢ Some v → IsFirstWith c v i p
  first_here v i p n e m h d = record { up_to = h.up_to; have = h.have; before = before }
    where
      own : HasMain c v p
      own = h.have p (omega arith) h.up_to

      before : (j : ℕ) → j < p → HasMain c v j → ⊥
      before j a x =
          let place : n < count c = let l = own.place in omega (arith, e, l) in
          let u = some_main (main_variable (poly c n)) (m n place) in
          let between : HasMain c u.0 n = record { place = place; main = u.1 } in
          let up : v ≤ u.0 = later_main j n v u.0 (omega (arith, a, e)) x between in
          let down : u.0 ≤ v = later_main n p u.0 v (omega (arith, e)) between own in
          let same : u.0 ≡ v = omega (arith, up, down) in
          d (u.1 ∙ ap Some same)
