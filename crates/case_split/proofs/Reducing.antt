-- What a reduction changes: one equation goes, and a new one has no variable that neither of both had.
use Rattle.std.specs.Prelude.{◌≡◌, ◌≢◌, ◌⊎◌, ◌<◌, ◌≤◌, ℕ, ◌+◌, ◌-◌, List, [], ◌∷◌, length, insert, remove, slice_index_or, refl}
use mathlib.Core.Logic.{inl, inr}
use Rattle.std.proofs.Common.{arith, subst, sym, ◌∙◌, ap}
use Rattle.std.proofs.lemmas.Bool.{cases_lt, cases_order}
use Rattle.std.proofs.lemmas.List.Edits.{get_or-insert_at, get_or-insert_below, get_or-insert_above, get_or-remove_below, get_or-remove_above, length-insert, length-remove}
use Rattle.std.specs.Cmp.{tied_itself}
use Rattle.std.specs.declared.cmp.Ordering.TheVariants.{Less}
use Rattle.std.specs.declared.option.Option.{Option}
use Rattle.std.specs.declared.option.Option.TheVariants.{None, Some}
use Rattle.sparse_poly.specs.declared.Term.{Term}
use Rattle.sparse_poly.specs.Contributions.{IsPoly}
use Rattle.sparse_poly.specs.Order.{poly_cmp}
use Rattle.sparse_poly.specs.OrderLaws.{poly_cmp-IsTotalOrder}
use Rattle.sparse_poly.specs.Reads.{degree_in, main_variable}
use Rattle.sparse_poly.specs.Clearing.{DividesOpenly}
use Rattle.sparse_poly.proofs.Degrees.{divisor_degree}
use Rattle.sparse_poly.proofs.ProductSums.{products_comm}
use Rattle.pseudo_rem.specs.declared.steps.Reduction.{Reduction}
use Rattle.pseudo_rem.proofs.DegreeLaw.{other}
use Rattle.derive_lines.specs.declared.parts.Line.{Line}
use Rattle.derive_lines.specs.Refuting.{IsContradiction}
use Rattle.case_rules.specs.declared.equation.Equation.{Equation}
use Rattle.case_rules.specs.declared.moves.Move.{Move}
use Rattle.case_rules.specs.declared.moves.Move.TheVariants as move_
use Rattle.case_rules.specs.Cases.{CaseState, known, equation_at, poly, polys_of, count, no_equation}
use Rattle.case_rules.specs.Kept.{added}
use Rattle.case_rules.specs.Clearings as clearings
use Rattle.case_rules.specs.Clearings.{made, Divides, IsClearing}
use Rattle.case_rules.specs.Branches.{CanReduce}
use Rattle.case_rules.specs.Rules as strategy
use Rattle.case_rules.specs.Rules.{IsAlive, IsDeadAt, IsLinearIn, IsOtherWith, IsLinearAt, IsMove}
use Rattle.case_rules.proofs.EndsBelong.{below_at}
use Rattle.case_rules.proofs.Regular.{polys_at, polys_length}
use Rattle.case_rules.proofs.Sides.{division_sides, powers_of}
use Rattle.case_system.specs.Places.{HasPlace}
use Rattle.case_state.specs.Places.{IsReducedAt}
use Rattle.case_split.specs.Found.{None_below, IsOnlyAt, IsSomePlace, IsLeftOf, IsMovedBy, AreInOrder}
use Rattle.case_split.specs.declared.linear.Passed.{Passed}
use Rattle.case_split.specs.Searched.{IsPassedWith, IsPassed, IsPassedBut, IsSearched}
use Rattle.case_split.proofs.Due.{poly_of}

-- a quotient has no higher degree than what was divided
turned : (n p h : List Term) → IsPoly n → DividesOpenly n p h → DividesOpenly h p n
turned n p h i d = let sides = division_sides n p h i d in record {
  poly = i;
  product = record {
    degree = sides.right_light.degree;
    light = sides.right_light.light;
    sums = λ k. d.product.sums k ∙ products_comm h n (powers_of h d.poly) (powers_of n i) k;
    poly = d.product.poly;
  };
}

quotient_degree : (w : ℕ) (n p h : List Term) → Divides n p h → degree_in w h ≤ degree_in w p
quotient_degree w n p h d = each h refl
  where
    each : (g : List Term) → h ≡ g → degree_in w h ≤ degree_in w p
    each [] e = let z = ap (degree_in w) e in omega (arith, z)
    each (t ∷ ts) e = divisor_degree w h p n d.quotient.poly d.quotient.product.poly (λ z. cc (sym e ∙ z)) d.nonzero (turned n p h d.in_form.poly d.quotient)

cleared_degree : (w : ℕ) (ns : List (List Term)) (k : ℕ) (e : Equation) (ls : List Line) (f : Equation) → IsClearing ns k e ls f → degree_in w f.poly ≤ degree_in w e.poly
cleared_degree w ns k e ls f (clearings.IsClearing.end i j) = omega arith
cleared_degree w ns k e ls f (clearings.IsClearing.next n ns' i j ls' f' none rest) = cleared_degree w ns' k e ls f rest
cleared_degree w ns k e ls f (clearings.IsClearing.once n ns' i j h ls' f' d rest) =
    let more = cleared_degree w (n ∷ ns') (k + 1) (made h k) ls' f rest in
    let first = quotient_degree w n e.poly h d in
    omega (arith, more, first)

zero_or_more : (n : ℕ) → (n ≡ 0) ⊎ (0 < n)
zero_or_more n = grind arith

-- two equations of a case differ
pub same_place : (c : CaseState) (i j : ℕ) → AreInOrder c → i < count c → j < count c → poly c i ≡ poly c j → i ≡ j
same_place c i j s l m e = each (cases_order i j)
  where
    not_less : (p q : List Term) → p ≡ q → poly_cmp p q ≡ Less → ⊥
    not_less p q e h = cc (sym h ∙ ap (poly_cmp p) (sym e) ∙ tied_itself poly_cmp-IsTotalOrder p)

    each : (i ≡ j) ⊎ ((i < j) ⊎ (j < i)) → i ≡ j
    each (inl x) = x
    each (inr (inl x)) = absurd (not_less (poly c i) (poly c j) e (below_at [] c.equations i j s.ascending.ascending x m))
    each (inr (inr x)) = absurd (not_less (poly c j) (poly c i) (sym e) (below_at [] c.equations j i s.ascending.ascending x l))

-- at first nothing is searched
pub searched_none : (c : CaseState) → IsSearched c (record { done = 0; passed = record { var = 0; first = 0 } })
searched_none c = record { done = λ i l. absurd (omega (arith, l)); passed = λ i j x y. let l = x.passed in absurd (omega (arith, l)) }

-- the main variable of the equation that reduces
pub main_of_move : (c : CaseState) (m : Move) (q p v : ℕ) → m ≡ move_.Reduce q p v → IsMove c m → main_variable (poly c p) ≡ Some v
main_of_move c m q p v e h = each m h e
  where
    each : (m : Move) → IsMove c m → m ≡ move_.Reduce q p v → main_variable (poly c p) ≡ Some v
    each m (strategy.IsMove.linear q' p' v' l) e = let same : p' ≡ p = cc e in let var : v' ≡ v = cc e in ap (λ p. main_variable (poly c p)) (sym same) ∙ l.linear.main ∙ ap Some var
    each m (strategy.IsMove.pair_reduction q' p' v' l f r) e = let same : p' ≡ p = cc e in let var : v' ≡ v = cc e in ap (λ p. main_variable (poly c p)) (sym same) ∙ r.pivot.has.main ∙ ap Some var
    each m (strategy.IsMove.factor by tail l f) e = absurd (cc e)
    each m (strategy.IsMove.pair_split by tail l f r) e = absurd (cc e)
    each m (strategy.IsMove.initial_split by tail l f r u) e = absurd (cc e)

module _ (c : CaseState) (q p v : ℕ) (at : Option ℕ) (d : CaseState) (s : IsReducedAt c q p v at d) (can : CanReduce c q p v) where
  abbrev rest : List Term
  rest = s.reduced.rest.poly

  abbrev left : List Equation
  left = remove c.equations q

  equations : d.equations ≡ added s.reduced.rest left
  equations = ap (λ (d : CaseState). d.equations) s.reduced.is

  same_known : known c ≡ known d
  same_known = sym (ap known s.reduced.is)

  -- an equation that was there, and where it stood; the first is for those that are left before the new one comes
  record WasLeft (i : ℕ) (x : List Term) : Type 0 where
    pub place : ℕ
    pub within : place < count c
    pub stays : place ≢ q
    pub same : x ≡ poly c place
    pub below : (n l : ℕ) → IsLeftOf n q l → i < l → place < n

  record WasAt (i : ℕ) (x : List Term) : Type 0 where
    pub place : ℕ
    pub within : place < count c
    pub stays : place ≢ q
    pub same : x ≡ poly c place
    pub below : (n l m : ℕ) → IsLeftOf n q l → IsMovedBy at l m → i < m → place < n

  was_left : (i : ℕ) → i < length left → WasLeft i (equation_at left i).poly
  was_left i l = each (cases_lt i q)
    where
      long : length left + 1 ≡ count c
      long = length-remove c.equations q can.q_place

      each : (i < q) ⊎ (q ≤ i) → WasLeft i (equation_at left i).poly
      each (inl x) = record {
        place = i;
        within = omega (arith, l, long);
        stays = λ e. absurd (omega (arith, e, x));
        same = ap (λ (e : Equation). e.poly) (get_or-remove_below c.equations q no_equation i x can.q_place);
        below = λ n m h k. h.before i k x;
      }
      each (inr x) = record {
        place = i + 1;
        within = omega (arith, l, long);
        stays = λ e. absurd (omega (arith, e, x));
        same = ap (λ (e : Equation). e.poly) (get_or-remove_above c.equations q no_equation i x can.q_place);
        below = λ n m h k. h.after i k x;
      }

  moved : (i j : ℕ) (x : List Term) → ((l m : ℕ) → IsMovedBy at l m → i < m → j < l) → WasLeft j x → WasAt i x
  moved i j x f h = record { place = h.place; within = h.within; stays = h.stays; same = h.same; below = λ n l m a b k. h.below n l a (f l m b k) }

  moved_none : (i l m : ℕ) → at ≡ None → IsMovedBy at l m → i < m → i < l
  moved_none i l m e h k = let b : m ≤ l = subst (λ o. IsMovedBy o l m) e h in omega (arith, b, k)

  moved_before : (i k l m : ℕ) → at ≡ Some k → i < k → IsMovedBy at l m → i < m → i < l
  moved_before i k l m e x h y = each (subst (λ o. IsMovedBy o l m) e h) (cases_lt l k)
    where
      each : IsMovedBy (Some k) l m → (l < k) ⊎ (k ≤ l) → i < l
      each g (inl z) = let b = g.1 z in omega (arith, b, y)
      each g (inr z) = omega (arith, x, z)

  moved_after : (i j k l m : ℕ) → at ≡ Some k → i ≡ j + 1 → IsMovedBy at l m → i < m → j < l
  moved_after i j k l m e x h y = each (subst (λ o. IsMovedBy o l m) e h) (cases_lt l k)
    where
      each : IsMovedBy (Some k) l m → (l < k) ⊎ (k ≤ l) → j < l
      each g (inl z) = let b = g.1 z in omega (arith, b, x, y)
      each g (inr z) = let b = g.0 z in omega (arith, b, x, y)

  came : (i : ℕ) → i < count d → WasAt i (poly d i) ⊎ ((at ≡ Some i) × (poly d i ≡ rest))
  came i l = by_place at refl s.place
    where
      by_place : (o : Option ℕ) → at ≡ o → HasPlace rest left o → WasAt i (poly d i) ⊎ ((at ≡ Some i) × (poly d i ≡ rest))
      by_place None e h =
          let same : polys_of d.equations ≡ polys_of left = ap polys_of equations ∙ h s.reduced.rest refl in
          let long : count d ≡ length left = sym (polys_length d.equations) ∙ ap length same ∙ polys_length left in
          let k : i < length left = omega (arith, l, long) in
          let own : poly d i ≡ (equation_at left i).poly = sym (polys_at d.equations i [] l) ∙ ap (λ ps. slice_index_or ps i []) same ∙ polys_at left i [] k in
          inl (subst (WasAt i) (sym own) (moved i i (equation_at left i).poly (λ l m. moved_none i l m e) (was_left i k)))
      by_place (Some k) e h = each (cases_order i k)
        where
          made_of : d.equations ≡ insert left k s.reduced.rest
          made_of = equations ∙ h.1 s.reduced.rest refl

          long : count d ≡ length left + 1
          long = ap length made_of ∙ length-insert left k s.reduced.rest h.0

          own : (j : ℕ) → poly d j ≡ (equation_at (insert left k s.reduced.rest) j).poly
          own j = ap (λ es. (equation_at es j).poly) made_of

          after : (j : ℕ) → i ≡ j + 1 → k ≤ j → WasAt i (poly d i)
          after j g m =
              let same : poly d i ≡ (equation_at left j).poly = own i ∙ ap (λ n. (equation_at (insert left k s.reduced.rest) n).poly) g ∙ ap (λ (e : Equation). e.poly) (get_or-insert_above left k s.reduced.rest no_equation j m h.0) in
              subst (WasAt i) (sym same) (moved i j (equation_at left j).poly (λ l m. moved_after i j k l m e g) (was_left j (omega (arith, l, long, g))))

          each : (i ≡ k) ⊎ ((i < k) ⊎ (k < i)) → WasAt i (poly d i) ⊎ ((at ≡ Some i) × (poly d i ≡ rest))
          each (inl x) = inr (e ∙ ap Some (sym x), own i ∙ ap (λ n. (equation_at (insert left k s.reduced.rest) n).poly) x ∙ ap (λ (e : Equation). e.poly) (get_or-insert_at left k s.reduced.rest no_equation h.0))
          each (inr (inl x)) =
              let same : poly d i ≡ (equation_at left i).poly = own i ∙ ap (λ (e : Equation). e.poly) (get_or-insert_below left k s.reduced.rest no_equation i x h.0) in
              let k' : i < length left = (let b = h.0 in omega (arith, x, b)) in
              inl (subst (WasAt i) (sym same) (moved i i (equation_at left i).poly (λ l m. moved_before i k l m e x) (was_left i k')))
          each (inr (inr x)) = inl (after (i - 1) (omega (arith, x)) (omega (arith, x)))

  pub some_place : IsSomePlace d at
  some_place = by_place at s.place
    where
      by_place : (o : Option ℕ) → HasPlace rest left o → IsSomePlace d o
      by_place None h = tt
      by_place (Some k) h = let long = ap length (equations ∙ h.1 s.reduced.rest refl) ∙ length-insert left k s.reduced.rest h.0 in let b = h.0 in omega (arith, long, b)

  -- only the new equation can be a contradiction
  pub only_dead : IsAlive c → IsOnlyAt (IsDeadAt d) at
  only_dead a i h = each (came i h.place)
    where
      each : WasAt i (poly d i) ⊎ ((at ≡ Some i) × (poly d i ≡ rest)) → at ≡ Some i
      each (inr x) = x.0
      each (inl w) = absurd (a w.place (record { place = w.within; contradiction = subst (IsContradiction (known c)) w.same (subst (λ ns. IsContradiction ns (poly d i)) (sym same_known) h.contradiction) }))

  -- the new equation has no variable that neither of both had
  had_variable : (w : ℕ) → AreInOrder c → 0 < degree_in w rest → (0 < degree_in w (poly c q)) ⊎ (0 < degree_in w (poly c p))
  had_variable w o l = each (zero_or_more (degree_in w (poly c p))) (zero_or_more (degree_in w (poly c q)))
    where
      step : Reduction
      step = s.reduced.step

      less : degree_in w rest ≤ degree_in w step.r
      less = cleared_degree w (known c) (length c.lines + 1) (made step.r (length c.lines)) s.reduced.lines s.reduced.rest s.reduced.clearing

      each : (degree_in w (poly c p) ≡ 0) ⊎ (0 < degree_in w (poly c p)) → (degree_in w (poly c q) ≡ 0) ⊎ (0 < degree_in w (poly c q)) → (0 < degree_in w (poly c q)) ⊎ (0 < degree_in w (poly c p))
      each (inr x) b = inr x
      each (inl z) (inr y) = inl y
      each (inl z) (inl y) =
          let no_more = other (known c) (poly c q) (poly c p) v step (poly_of c o q can.q_place) (poly_of c o p can.p_place) can.can s.reduced.reduction w z in
          absurd (omega (arith, l, less, no_more, y))

  -- of the equations that were not due by Linear only the new one may be so
  pub only_linear : (n k m : ℕ) → AreInOrder c → AreInOrder d → main_variable (poly c p) ≡ Some v → None_below (IsLinearAt c) n → IsLeftOf n q k → IsMovedBy at k m → (i : ℕ) → i < m → IsLinearAt d i → at ≡ Some i
  only_linear n k m o o' g none b b' i l h = each (came i h.place)
    where
      each : WasAt i (poly d i) ⊎ ((at ≡ Some i) × (poly d i ≡ rest)) → at ≡ Some i
      each (inr x) = x.0
      each (inl w) = absurd (again h.q h.other (came h.q h.other.place))
        where
          own : IsLinearIn (poly c w.place) h.v
          own = subst (λ x. IsLinearIn x h.v) w.same h.linear

          not_due : (j : ℕ) → IsOtherWith c w.place h.v j → ⊥
          not_due j x = none w.place (w.below n k m b b' l) (record { place = w.within; v = h.v; linear = own; q = j; other = x })

          by_q : 0 < degree_in h.v (poly c q) → ⊥
          by_q x = not_due q (record { place = can.q_place; other = λ e. w.stays (sym e); contains = x })

          by_p : 0 < degree_in h.v (poly c p) → (p ≡ w.place) ⊎ (p ≢ w.place) → ⊥
          by_p x (inr y) = not_due p (record { place = can.p_place; other = y; contains = x })
          by_p x (inl y) =
              let same : Some v ≡ Some h.v = sym g ∙ ap (λ j. main_variable (poly c j)) y ∙ own.main in
              let var : v ≡ h.v = cc same in
              by_q (subst (λ w. 0 < degree_in w (poly c q)) var (let a = can.can.occurs in let b = can.can.below in omega (arith, a, b)))

          same_or : (p ≡ w.place) ⊎ (p ≢ w.place)
          same_or = tell (cases_order p w.place)
            where
              tell : (p ≡ w.place) ⊎ ((p < w.place) ⊎ (w.place < p)) → (p ≡ w.place) ⊎ (p ≢ w.place)
              tell (inl x) = inl x
              tell (inr (inl x)) = inr (λ e. absurd (omega (arith, e, x)))
              tell (inr (inr x)) = inr (λ e. absurd (omega (arith, e, x)))

          by_rest : (0 < degree_in h.v (poly c q)) ⊎ (0 < degree_in h.v (poly c p)) → ⊥
          by_rest (inl x) = by_q x
          by_rest (inr x) = by_p x same_or

          again : (j : ℕ) → IsOtherWith d i h.v j → WasAt j (poly d j) ⊎ ((at ≡ Some j) × (poly d j ≡ rest)) → ⊥
          again j x (inr y) = by_rest (had_variable h.v o (subst (λ r. 0 < degree_in h.v r) y.1 x.contains))
          again j x (inl y) = not_due y.place (record {
            place = y.within;
            other = λ e. x.other (same_place d j i o' x.place h.place (y.same ∙ ap (poly c) e ∙ sym w.same));
            contains = subst (λ r. 0 < degree_in h.v r) y.same x.contains;
          })

  -- of the equations that were passed at most one contains the variable, apart from the new one
  pub only_passed : (before now : Passed) → AreInOrder d → IsPassed c before → now.var ≡ before.var → IsLeftOf before.first q now.first → IsPassedBut d at now
  only_passed before now o h e b i j x y no_i no_j = each (came i x.place) (came j y.place)
    where
      not_moved : (o : Option ℕ) (k : ℕ) → IsMovedBy o k k
      not_moved None k = omega arith
      not_moved (Some m) k = (λ l. omega arith, λ l. omega arith)

      was : (i : ℕ) → IsPassedWith d now i → (u : WasAt i (poly d i)) → IsPassedWith c before u.place
      was i x u = record {
        passed = u.below before.first now.first now.first b (not_moved at now.first) x.passed;
        place = u.within;
        contains = subst (λ w. 0 < degree_in w (poly c u.place)) e (subst (λ r. 0 < degree_in now.var r) u.same x.contains);
      }

      each : WasAt i (poly d i) ⊎ ((at ≡ Some i) × (poly d i ≡ rest)) → WasAt j (poly d j) ⊎ ((at ≡ Some j) × (poly d j ≡ rest)) → i ≡ j
      each (inr e) g = absurd (no_i e.0)
      each (inl u) (inr e) = absurd (no_j e.0)
      each (inl u) (inl z) = same_place d i j o x.place y.place (u.same ∙ ap (poly c) (h u.place z.place (was i x u) (was j y z)) ∙ sym z.same)
