-- Where an equation is placed.
use Rattle.std.specs.Prelude.{◌≡◌, ◌≢◌, ◌⊎◌, ℕ, zero, suc, ◌+◌, ◌-◌, ◌<◌, ◌≤◌, List, [], ◌∷◌, ◌++◌, length, take, drop, remove, slice_index_or, slice_set, MatchResult, refl}
use mathlib.Core.Logic.{inl, inr}
use Rattle.std.proofs.Common.{arith, sym, subst, ◌∙◌, ap, append_assoc, drop-cons}
use Rattle.std.proofs.lemmas.Bool.{cases_lt, cases_order}
use Rattle.std.proofs.lemmas.List.Edits.{get_or-remove_below, get_or-remove_above, length-remove}
use Rattle.std.specs.List.Sorted.{IsStrictlySortedBy, IsNonDecreasingBy, IsPartitionPoint, IsBinarySearchResult, IsSearchInRange}
use Rattle.std.specs.Ordering.{ordering_index}
use Rattle.std.proofs.Math.Numerals.{add-one}
use Rattle.std.proofs.Math.Seq.{take-suc}
use Rattle.std.specs.Cmp.{tied_itself}
use Rattle.std.specs.declared.cmp.Ordering.{Ordering}
use Rattle.std.specs.declared.cmp.Ordering.TheVariants.{Less, Equal, Greater}
use Rattle.std.specs.declared.result.Result.{Result}
use Rattle.std.specs.declared.result.Result.TheVariants.{Ok, Err}
use Rattle.std.specs.declared.option.Option.TheVariants.{None}
use Rattle.sparse_poly.specs.declared.Term.{Term}
use Rattle.sparse_poly.specs.Order.{poly_cmp}
use Rattle.sparse_poly.specs.OrderLaws.{poly_cmp-IsAntisymmetric, poly_cmp-IsTotalOrder}
use Rattle.derive_lines.specs.declared.parts.Item.{Item}
use Rattle.case_rules.specs.declared.equation.Equation.{Equation}
use Rattle.case_rules.specs.Cases.{equation_at, no_equation, polys_of}
use Rattle.case_rules.specs.Kept.{older, placed, by_place, added, added_if, item_if, item_of}
use Rattle.case_rules.proofs.EndsBelong.{below_at}
use Rattle.case_system.specs.Places.{Ascend, StandsAt, GoesTo, HasPlace}

-- lists from a place on
pub drop_one : {X : Type 0} → (xs : List X) (k : ℕ) (d : X) → k < length xs → drop k xs ≡ slice_index_or xs k d ∷ drop (k + 1) xs
drop_one xs k d h = drop-cons xs k d h ∙ ap (λ n. slice_index_or xs k d ∷ drop n xs) (sym (add-one k))

pub drop_end : {X : Type 0} → (xs : List X) (k : ℕ) → length xs ≤ k → drop k xs ≡ []
drop_end [] zero h = refl
drop_end [] (suc k) h = refl
drop_end (x ∷ xs) zero h = absurd (omega arith)
drop_end (x ∷ xs) (suc k) h = drop_end xs k (omega arith)

pub drop_this : {X : Type 0} → (xs : List X) (k : ℕ) (x : X) → k < length xs → x ≡ slice_index_or xs k x → drop k xs ≡ x ∷ drop (k + 1) xs
drop_this xs k x h e = drop_one xs k x h ∙ ap (λ y. y ∷ drop (k + 1) xs) (sym e)

pub take_this : {X : Type 0} → (xs : List X) (k : ℕ) (x : X) → k < length xs → x ≡ slice_index_or xs k x → take (k + 1) xs ≡ take k xs ++ x ∷ []
take_this xs k x h e = ap (λ n. take n xs) (add-one k) ∙ take-suc xs k x h ∙ ap (λ y. take k xs ++ y ∷ []) (sym e)

set_this : {X : Type 0} → (xs : List X) (k : ℕ) (y : X) → k < length xs → slice_set xs k y ≡ take k xs ++ y ∷ drop (k + 1) xs
set_this [] k y h = absurd (omega (arith, h))
set_this (x ∷ xs) zero y h = refl
set_this (x ∷ xs) (suc k) y h = ap (λ zs. x ∷ zs) (set_this xs k y (omega (arith, h))) ∙ ap (λ n. x ∷ (take k xs ++ y ∷ drop n xs)) (add-one k) ∙ ap (λ n. take (suc k) (x ∷ xs) ++ y ∷ drop n (x ∷ xs)) (sym (add-one (suc k)))

pub same_index : (es : List Equation) (i : ℕ) (f : Equation) → i < length es → f ≡ slice_index_or es i f → f ≡ equation_at es i
same_index [] i f h e = absurd (omega (arith, h))
same_index (x ∷ xs) zero f h e = e
same_index (x ∷ xs) (suc i) f h e = same_index xs i f (omega (arith, h)) e

-- the equations before place i stay before an equation with this polynomial
abbrev pub IsPast : List Term → List Equation → ℕ → Type 0
IsPast p es i = (e : Equation) → e.poly ≡ p → placed e es ≡ take i es ++ placed e (drop i es)

placed_by : (e f : Equation) (es : List Equation) (p : List Term) (o : Ordering) → e.poly ≡ p → poly_cmp f.poly p ≡ o → placed e (f ∷ es) ≡ by_place o e f es (placed e es)
placed_by e f es p o g h = ap (λ c. by_place c e f es (placed e es)) (ap (λ q. poly_cmp f.poly q) g ∙ h)

pub past_start : (p : List Term) (es : List Equation) → IsPast p es 0
past_start p es e g = refl

pub past_more : (p : List Term) (es : List Equation) (i : ℕ) (f : Equation) → i < length es → f ≡ slice_index_or es i f → poly_cmp f.poly p ≡ Less → IsPast p es i → IsPast p es (i + 1)
past_more p es i f l at c h e g =
    h e g
    ∙ ap (λ r. take i es ++ placed e r) (drop_this es i f l at)
    ∙ ap (λ r. take i es ++ r) (placed_by e f (drop (i + 1) es) p Less g c)
    ∙ sym (append_assoc (take i es) (f ∷ []) (placed e (drop (i + 1) es)))
    ∙ ap (λ r. r ++ placed e (drop (i + 1) es)) (sym (take_this es i f l at))

pub past_equal : (p : List Term) (es : List Equation) (i : ℕ) (f : Equation) → i < length es → f ≡ slice_index_or es i f → poly_cmp f.poly p ≡ Equal → IsPast p es i → StandsAt p es i
past_equal p es i f l at c h = record {
  within = l;
  kept = λ e g.
      let same : f ≡ equation_at es i = same_index es i f l at in
      h e g
      ∙ ap (λ r. take i es ++ placed e r) (drop_this es i f l at)
      ∙ ap (λ r. take i es ++ r) (placed_by e f (drop (i + 1) es) p Equal g c)
      ∙ ap (λ (x : Equation). take i es ++ (let y : Equation = record { poly = x.poly; item = older x.item e.item } in y) ∷ drop (i + 1) es) same
      ∙ sym (set_this es i (record { poly = (equation_at es i).poly; item = older (equation_at es i).item e.item }) l);
}

pub past_greater : (p : List Term) (es : List Equation) (i : ℕ) (f : Equation) → i < length es → f ≡ slice_index_or es i f → poly_cmp f.poly p ≡ Greater → IsPast p es i → GoesTo p es i
past_greater p es i f l at c h = record {
  within = omega (arith, l);
  inserted = λ e g.
      h e g
      ∙ ap (λ r. take i es ++ placed e r) (drop_this es i f l at)
      ∙ ap (λ r. take i es ++ r) (placed_by e f (drop (i + 1) es) p Greater g c)
      ∙ ap (λ r. take i es ++ e ∷ r) (sym (drop_this es i f l at));
}

pub past_end : (p : List Term) (es : List Equation) (i : ℕ) → i ≡ length es → IsPast p es i → GoesTo p es i
past_end p es i l h = record {
  within = omega (arith, l);
  inserted = λ e g. h e g ∙ ap (λ r. take i es ++ placed e r) none ∙ ap (λ r. take i es ++ e ∷ r) (sym none);
}
  where
    none : drop i es ≡ []
    none = drop_end es i (omega (arith, l))

-- what a binary search answers among equations that ascend
pub any_default : {X : Type 0} → (xs : List X) (i : ℕ) (d e : X) → i < length xs → slice_index_or xs i d ≡ slice_index_or xs i e
any_default [] i d e h = absurd (omega (arith, h))
any_default (x ∷ xs) zero d e h = refl
any_default (x ∷ xs) (suc i) d e h = any_default xs i d e (omega (arith, h))

past_all : (p : List Term) (es : List Equation) (i : ℕ) → i ≤ length es → ((j : ℕ) → j < i → poly_cmp (equation_at es j).poly p ≡ Less) → IsPast p es i
past_all p es zero l h = past_start p es
past_all p es (suc i) l h =
    let at : i < length es = omega (arith, l) in
    let rest : IsPast p es i = past_all p es i (omega (arith, l)) (λ j k. h j (omega (arith, k))) in
    subst (IsPast p es) (add-one i) (past_more p es i (equation_at es i) at (any_default es i _ _ at) (h i (omega arith)) rest)

-- above the last equation
pub goes_last : (p : List Term) (es : List Equation) → Ascend es → 0 < length es → poly_cmp (equation_at es (length es - 1)).poly p ≡ Less → GoesTo p es (length es)
goes_last p es a n l = past_end p es (length es) refl (past_all p es (length es) (omega arith) (λ j k. each j k (cases_lt j (length es - 1))))
  where
    each : (j : ℕ) → j < length es → (j < length es - 1) ⊎ (length es - 1 ≤ j) → poly_cmp (equation_at es j).poly p ≡ Less
    each j k (inl x) = poly_cmp-IsTotalOrder.trans (equation_at es j).poly (equation_at es (length es - 1)).poly p (below_at [] es j (length es - 1) a x (omega arith)) l
    each j k (inr x) =
        let same : length es - 1 ≡ j = omega (arith, x, k) in
        subst (λ i. poly_cmp (equation_at es i).poly p ≡ Less) same l

-- the order to a polynomial does not fall along the equations
rises : (p q r : List Term) → poly_cmp p q ≡ Less → ordering_index (poly_cmp p r) ≤ ordering_index (poly_cmp q r)
rises p q r l = each (poly_cmp q r) refl
  where
    within : (o : Ordering) → ordering_index o ≤ 2
    within Less = omega arith
    within Equal = omega arith
    within Greater = omega arith

    each : (o : Ordering) → poly_cmp q r ≡ o → ordering_index (poly_cmp p r) ≤ ordering_index o
    each Less e = let same = ap ordering_index (poly_cmp-IsTotalOrder.trans p q r l e) in omega (arith, same)
    each Equal e = let same = ap ordering_index (ap (poly_cmp p) (sym (poly_cmp-IsAntisymmetric q r e)) ∙ l) in omega (arith, same)
    each Greater e = within (poly_cmp p r)

order_rises : (p : List Term) (es : List Equation) → Ascend es → IsNonDecreasingBy (λ (e : Equation). ordering_index (poly_cmp e.poly p)) es
order_rises p es a i j d l k = each (cases_order i j)
  where
    each : (i ≡ j) ⊎ ((i < j) ⊎ (j < i)) → ordering_index (poly_cmp (slice_index_or es i d).poly p) ≤ ordering_index (poly_cmp (slice_index_or es j d).poly p)
    each (inl x) = let same = ap (λ i. ordering_index (poly_cmp (slice_index_or es i d).poly p)) x in omega (arith, same)
    each (inr (inl x)) =
        let first = ap (λ (e : Equation). ordering_index (poly_cmp e.poly p)) (any_default es i d no_equation (omega (arith, x, k))) in
        let second = ap (λ (e : Equation). ordering_index (poly_cmp e.poly p)) (any_default es j d no_equation k) in
        let both = rises (equation_at es i).poly (equation_at es j).poly p (below_at [] es i j a x k) in
        omega (arith, first, second, both)
    each (inr (inr x)) = absurd (omega (arith, l, x))

pub found_place : (p : List Term) (es : List Equation) (r : Result ℕ ℕ) → Ascend es → IsSearchInRange r (length es) → IsBinarySearchResult (λ (e : Equation). poly_cmp e.poly p) es r → MatchResult r (StandsAt p es) (GoesTo p es)
found_place p es (Ok i) a l h = past_equal p es i (equation_at es i) l (any_default es i _ _ l) (h no_equation) (past_all p es i (omega (arith, l)) before)
  where
    same : (equation_at es i).poly ≡ p
    same = poly_cmp-IsAntisymmetric (equation_at es i).poly p (h no_equation)

    before : (j : ℕ) → j < i → poly_cmp (equation_at es j).poly p ≡ Less
    before j k = ap (poly_cmp (equation_at es j).poly) (sym same) ∙ below_at [] es j i a k l
found_place p es (Err i) a l h = each (cases_order i (length es))
  where
    parts : IsPartitionPoint (λ (e : Equation). poly_cmp e.poly p ≡ Less) (λ (e : Equation). poly_cmp e.poly p ≡ Greater) es i
    parts = h (order_rises p es a)

    past : IsPast p es i
    past = past_all p es i l (λ j k. parts.0 j no_equation (omega arith) k)

    each : (i ≡ length es) ⊎ ((i < length es) ⊎ (length es < i)) → GoesTo p es i
    each (inl x) = past_end p es i x past
    each (inr (inl x)) = past_greater p es i (equation_at es i) x (any_default es i _ _ x) (parts.1 i no_equation (omega arith) x) past
    each (inr (inr x)) = absurd (omega (arith, l, x))

-- where the polynomial goes among the equations other than that at place q
module _ (p : List Term) (es : List Equation) (q : ℕ) (a : Ascend es) (in_list : q < length es) (i : ℕ) (within : i ≤ length es) (h : IsBinarySearchResult (λ (e : Equation). poly_cmp e.poly p) es (Err i)) where
  left_long : length (remove es q) + 1 ≡ length es
  left_long = length-remove es q in_list

  parts : IsPartitionPoint (λ (e : Equation). poly_cmp e.poly p ≡ Less) (λ (e : Equation). poly_cmp e.poly p ≡ Greater) es i
  parts = h (order_rises p es a)

  less_at : (j k : ℕ) → equation_at (remove es q) j ≡ equation_at es k → k < i → poly_cmp (equation_at (remove es q) j).poly p ≡ Less
  less_at j k e l = ap (λ (e : Equation). poly_cmp e.poly p) e ∙ parts.0 k no_equation (omega (arith, l, within)) l

  goes_at : (j k : ℕ) → j ≤ length (remove es q) → ((m : ℕ) → m < j → poly_cmp (equation_at (remove es q) m).poly p ≡ Less) → (j < length (remove es q) → equation_at (remove es q) j ≡ equation_at es k) → i ≤ k → k ≤ j + 1 → GoesTo p (remove es q) j
  goes_at j k l b e m n = each (cases_order j (length (remove es q)))
    where
      past : IsPast p (remove es q) j
      past = past_all p (remove es q) j l b

      each : (j ≡ length (remove es q)) ⊎ ((j < length (remove es q)) ⊎ (length (remove es q) < j)) → GoesTo p (remove es q) j
      each (inl x) = past_end p (remove es q) j x past
      each (inr (inl x)) =
          past_greater p (remove es q) j (equation_at (remove es q) j) x (any_default (remove es q) j _ _ x)
          (ap (λ (e : Equation). poly_cmp e.poly p) (e x) ∙ parts.1 k no_equation m (omega (arith, x, n, left_long))) past
      each (inr (inr x)) = absurd (omega (arith, l, x))

  pub goes_before : i ≤ q → GoesTo p (remove es q) i
  goes_before l = each (cases_order i q)
    where
      below : (m : ℕ) → m < i → poly_cmp (equation_at (remove es q) m).poly p ≡ Less
      below m k = less_at m m (get_or-remove_below es q no_equation m (omega (arith, k, l)) in_list) k

      each : (i ≡ q) ⊎ ((i < q) ⊎ (q < i)) → GoesTo p (remove es q) i
      each (inl x) = goes_at i (i + 1) (omega (arith, x, in_list, left_long)) below (λ k. get_or-remove_above es q no_equation i (omega (arith, x)) in_list) (omega arith) (omega arith)
      each (inr (inl x)) = goes_at i i (omega (arith, l, in_list, left_long)) below (λ k. get_or-remove_below es q no_equation i x in_list) (omega arith) (omega arith)
      each (inr (inr x)) = absurd (omega (arith, l, x))

  pub goes_after : q < i → GoesTo p (remove es q) (i - 1)
  goes_after l = goes_at (i - 1) i (omega (arith, within, l, left_long)) below (λ k. above_at (i - 1) (omega (arith, l)) ∙ ap (equation_at es) (let e : i - 1 + 1 ≡ i = omega (arith, l) in e)) (omega arith) (omega arith)
    where
      above_at : (m : ℕ) → q ≤ m → equation_at (remove es q) m ≡ equation_at es (m + 1)
      above_at m k = get_or-remove_above es q no_equation m k in_list

      below : (m : ℕ) → m < i - 1 → poly_cmp (equation_at (remove es q) m).poly p ≡ Less
      below m k = each (cases_lt m q)
        where
          each : (m < q) ⊎ (q ≤ m) → poly_cmp (equation_at (remove es q) m).poly p ≡ Less
          each (inl x) = less_at m m (get_or-remove_below es q no_equation m x in_list) (omega (arith, k))
          each (inr x) = less_at m (m + 1) (above_at m x) (omega (arith, k))

-- what is added, where the polynomial is not zero
pub added_placed : (e : Equation) (es : List Equation) → e.poly ≢ [] → added e es ≡ placed e es
added_placed e es n = each e.poly refl
  where
    each : (p : List Term) → e.poly ≡ p → added e es ≡ placed e es
    each [] g = absurd (n g)
    each (t ∷ ts) g = ap (λ p. added_if p e es) g

pub added_there : (e : Equation) (es : List Equation) (i : ℕ) → e.poly ≢ [] → StandsAt e.poly es i → added e es ≡ slice_set es i (record { poly = (equation_at es i).poly; item = older (equation_at es i).item e.item })
added_there e es i n s = added_placed e es n ∙ s.kept e refl

-- the item of a polynomial, equation by equation
pub item_found : (p : List Term) (other : Item) (e : Equation) (es : List Equation) → e.poly ≡ p → item_of p other (e ∷ es) ≡ e.item
item_found p other e es g = ap (λ o. item_if o e.item (item_of p other es)) (ap (poly_cmp e.poly) (sym g) ∙ tied_itself poly_cmp-IsTotalOrder e.poly)

pub item_passed : (p : List Term) (other : Item) (e : Equation) (es : List Equation) → (e.poly ≡ p → ⊥) → item_of p other (e ∷ es) ≡ item_of p other es
item_passed p other e es n = each (poly_cmp e.poly p) refl
  where
    each : (o : Ordering) → poly_cmp e.poly p ≡ o → item_if o e.item (item_of p other es) ≡ item_of p other es
    each Less g = refl
    each Equal g = absurd (n (poly_cmp-IsAntisymmetric e.poly p g))
    each Greater g = refl

pub ascend_none : Ascend []
unfolding IsStrictlySortedBy
ascend_none = tt

-- an equation that is there keeps its polynomial
same_polys : (es : List Equation) (i : ℕ) (e : Equation) → i < length es → e.poly ≡ (equation_at es i).poly → polys_of (slice_set es i e) ≡ polys_of es
same_polys [] i e l h = absurd (omega (arith, l))
same_polys (x ∷ xs) zero e l h = ap (λ p. p ∷ polys_of xs) h
same_polys (x ∷ xs) (suc i) e l h = ap (λ ps. x.poly ∷ ps) (same_polys xs i e (omega (arith, l)) h)

pub no_new_place : (p : List Term) (es : List Equation) (i : ℕ) → p ≢ [] → StandsAt p es i → HasPlace p es None
no_new_place p es i n s e h =
    ap polys_of (added_there e es i (λ z. n (sym h ∙ z)) (subst (λ q. StandsAt q es i) (sym h) s))
    ∙ same_polys es i (record { poly = (equation_at es i).poly; item = older (equation_at es i).item e.item }) s.within refl
