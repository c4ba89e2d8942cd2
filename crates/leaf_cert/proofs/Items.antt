-- The polynomials of items, as lists, and equations that are items in ascending order.
use Rattle.std.specs.Prelude.{◌≡◌, ◌<◌, ◌≤◌, ℕ, zero, suc, ◌+◌, ◌-◌, ◌⊎◌, Bool, true, false, if◌then◌else◌, List, [], ◌∷◌, drop, length, slice_get, slice_index_or, refl}
use mathlib.Core.Logic.{inl, inr}
use Rattle.std.proofs.Common.{arith, sym, ◌∙◌, ap, subst}
use Rattle.std.proofs.lemmas.List.{drop_all}
use Rattle.std.proofs.lemmas.Option.{none-some, same_Some, slice_get_within, slice_get-get_or}
use Rattle.std.specs.List.{AllByRecursion}
use Rattle.std.specs.List.Sorted.{IsStrictlySortedBy}
use Rattle.std.specs.declared.cmp.Ordering.TheVariants.{Less}
use Rattle.std.specs.declared.option.Option.TheVariants.{None, Some}
use Rattle.sparse_poly.specs.declared.Term.{Term}
use Rattle.sparse_poly.specs.Order.{poly_cmp}
use Rattle.sparse_poly.specs.OrderLaws.{poly_cmp-IsTotalOrder}
use Rattle.derive_lines.specs.declared.parts.Decision.{Decision}
use Rattle.derive_lines.specs.declared.parts.Line.{Line}
use Rattle.derive_lines.specs.declared.parts.Item.{Item}
use Rattle.derive_lines.specs.declared.parts.Item.TheVariants.{Root, Decision as of_decision, Line as of_line}
use Rattle.derive_lines.specs.Lines.{item_poly, zero_poly, made_poly}
use Rattle.derive_lines.specs.Known.{Holds}
use Rattle.leaf_cert.specs.Items.{zero_polys, made_polys}
use Rattle.leaf_cert.specs.Leaves.{IsItem, IsGoodEquation, AreEquations}

-- nothing is left
pub none_left : {X : Type 0} (F : List X → List (List Term)) (all : List (List Term)) (xs : List X) (n : ℕ) (p : List Term) (T : Type 0) → F [] ≡ [] → length xs ≤ n → (Holds all p ⊎ Holds (F (drop n xs)) p → T) × (T → Holds all p ⊎ Holds (F (drop n xs)) p) → (Holds all p → T) × (T → Holds all p)
none_left F all xs n p T f l h = (λ a. h.0 (inl a), λ t. only (subst (λ ys. Holds all p ⊎ Holds ys p) (ap F (drop_all n xs l) ∙ f) (h.1 t)))
  where
    only : Holds all p ⊎ ⊥ → Holds all p
    only (inl a) = a
    only (inr b) = absurd b

root_place : (ps : List (List Term)) (p : List Term) → Holds ps p → (i : ℕ) × (slice_get ps i ≡ Some p)
root_place [] p h = absurd h
root_place (x ∷ xs) p (inl e) = (zero, ap Some e)
root_place (x ∷ xs) p (inr h) = let r = root_place xs p h in (suc r.0, r.1)

place_root : (ps : List (List Term)) (i : ℕ) (p : List Term) → slice_get ps i ≡ Some p → Holds ps p
place_root [] i p e = absurd (none-some p e)
place_root (x ∷ xs) zero p e = inl (same_Some x p e)
place_root (x ∷ xs) (suc i) p e = inr (place_root xs i p e)

zero_place : (ds : List Decision) (p : List Term) → Holds (zero_polys ds) p → (i : ℕ) × (zero_poly (slice_get ds i) ≡ Some p)
zero_place [] p h = absurd h
zero_place (d ∷ ds) p h = each d.zero refl h (zero_place ds p)
  where
    each : (b : Bool) → d.zero ≡ b → Holds (if b then d.poly ∷ zero_polys ds else zero_polys ds) p → (Holds (zero_polys ds) p → (i : ℕ) × (zero_poly (slice_get ds i) ≡ Some p)) → (i : ℕ) × (zero_poly (slice_get (d ∷ ds) i) ≡ Some p)
    each false e h r = let s = r h in (suc s.0, s.1)
    each true e (inl f) r = (zero, ap (λ c. if c then Some d.poly else None) e ∙ ap Some f)
    each true e (inr h) r = let s = r h in (suc s.0, s.1)

place_zero : (ds : List Decision) (i : ℕ) (p : List Term) → zero_poly (slice_get ds i) ≡ Some p → Holds (zero_polys ds) p
place_zero [] i p e = absurd (none-some p e)
place_zero (d ∷ ds) zero p e =
    elim d.zero as (λ b. (if b then Some d.poly else None) ≡ Some p → Holds (if b then d.poly ∷ zero_polys ds else zero_polys ds) p) [
      | true ↦ λ e. inl (same_Some d.poly p e)
      | false ↦ λ e. absurd (none-some p e)
    ] e
place_zero (d ∷ ds) (suc i) p e =
    elim d.zero as (λ b. Holds (zero_polys ds) p → Holds (if b then d.poly ∷ zero_polys ds else zero_polys ds) p) [
      | true ↦ λ h. inr h
      | false ↦ λ h. h
    ] (place_zero ds i p e)

made_place : (ls : List Line) (p : List Term) → Holds (made_polys ls) p → (i : ℕ) × (made_poly (slice_get ls i) ≡ Some p)
made_place [] p h = absurd h
made_place (x ∷ xs) p (inl e) = (zero, ap Some e)
made_place (x ∷ xs) p (inr h) = let r = made_place xs p h in (suc r.0, r.1)

place_made : (ls : List Line) (i : ℕ) (p : List Term) → made_poly (slice_get ls i) ≡ Some p → Holds (made_polys ls) p
place_made [] i p e = absurd (none-some p e)
place_made (x ∷ xs) zero p e = inl (same_Some x.made p e)
place_made (x ∷ xs) (suc i) p e = inr (place_made xs i p e)

-- a polynomial is that of an item exactly where it is a root equation, that of a zero decision, or was made by a line
pub items_are : (root : List (List Term)) (ds : List Decision) (ls : List Line) (p : List Term) → ((Holds root p ⊎ Holds (zero_polys ds) p) ⊎ Holds (made_polys ls) p → IsItem root ds ls p) × (IsItem root ds ls p → (Holds root p ⊎ Holds (zero_polys ds) p) ⊎ Holds (made_polys ls) p)
items_are root ds ls p = (λ h. forth h, λ i. back i.item i.is)
  where
    forth : (Holds root p ⊎ Holds (zero_polys ds) p) ⊎ Holds (made_polys ls) p → IsItem root ds ls p
    forth (inl (inl h)) = let r = root_place root p h in record { item = Root r.0; is = r.1 }
    forth (inl (inr h)) = let r = zero_place ds p h in record { item = of_decision r.0; is = r.1 }
    forth (inr h) = let r = made_place ls p h in record { item = of_line r.0; is = r.1 }

    back : (item : Item) → item_poly root ds ls item ≡ Some p → (Holds root p ⊎ Holds (zero_polys ds) p) ⊎ Holds (made_polys ls) p
    back (Root i) e = inl (inl (place_root root i p e))
    back (of_decision i) e = inl (inr (place_zero ds i p e))
    back (of_line i) e = inr (place_made ls i p e)

-- polynomials of which each is above the one before it ascend
ascends : (ps : List (List Term)) → ((j : ℕ) (p q : List Term) → slice_get ps j ≡ Some p → slice_get ps (suc j) ≡ Some q → poly_cmp p q ≡ Less) → IsStrictlySortedBy poly_cmp ps
unfolding IsStrictlySortedBy
ascends [] h = tt
ascends (p ∷ []) h = (tt, tt)
ascends (p ∷ q ∷ qs) h =
    let rest : IsStrictlySortedBy poly_cmp (q ∷ qs) = ascends (q ∷ qs) (λ j a b e f. h (suc j) a b e f) in
    let first : poly_cmp p q ≡ Less = h zero p q refl refl in
    ((first, all_above qs first rest.0), rest)
  where
    all_above : (us : List (List Term)) → poly_cmp p q ≡ Less → AllByRecursion (λ y. poly_cmp q y ≡ Less) us → AllByRecursion (λ y. poly_cmp p y ≡ Less) us
    all_above [] f h = tt
    all_above (u ∷ us) f h = (poly_cmp-IsTotalOrder.trans p q u f h.0, all_above us f h.1)

pub AreEquations-all : (root : List (List Term)) (ds : List Decision) (ls : List Line) (eqs : List (List Term)) (n : ℕ) → length eqs ≤ n → ((j : ℕ) (q : List Term) → j < n → slice_get eqs j ≡ Some q → IsGoodEquation root ds ls eqs j q) → AreEquations root ds ls eqs
AreEquations-all root ds ls eqs n l h = record {
  items = λ k d lt. (h k (slice_index_or eqs k d) (omega arith) (slice_get-get_or eqs k d lt)).item;
  ascending = ascends eqs (λ j p q e f. let lt : suc j < length eqs = slice_get_within eqs (suc j) q f in (h (suc j) q (omega arith) f).above j p refl e);
}

-- a set of all items, by what the loops end with
pub items_from : (root : List (List Term)) (ds : List Decision) (ls : List Line) (known : List (List Term)) (n : ℕ) → length ls ≤ n → ((p : List Term) → (Holds known p ⊎ Holds (made_polys (drop n ls)) p → (Holds root p ⊎ Holds (zero_polys ds) p) ⊎ Holds (made_polys ls) p) × ((Holds root p ⊎ Holds (zero_polys ds) p) ⊎ Holds (made_polys ls) p → Holds known p ⊎ Holds (made_polys (drop n ls)) p)) → (p : List Term) → (Holds known p → IsItem root ds ls p) × (IsItem root ds ls p → Holds known p)
items_from root ds ls known n l h p =
    let a = none_left made_polys known ls n p ((Holds root p ⊎ Holds (zero_polys ds) p) ⊎ Holds (made_polys ls) p) refl l (h p) in
    let b = items_are root ds ls p in
    (λ k. b.0 (a.0 k), λ i. a.1 (b.1 i))

-- one more equation is good
pub good_more : (root : List (List Term)) (ds : List Decision) (ls : List Line) (eqs : List (List Term)) (i : ℕ) (p : List Term) → ((j : ℕ) (q : List Term) → j < i → slice_get eqs j ≡ Some q → IsGoodEquation root ds ls eqs j q) → slice_get eqs i ≡ Some p → IsItem root ds ls p → ((j : ℕ) (q : List Term) → suc j ≡ i → slice_get eqs j ≡ Some q → poly_cmp q p ≡ Less) → (j : ℕ) (q : List Term) → j < i + 1 → slice_get eqs j ≡ Some q → IsGoodEquation root ds ls eqs j q
good_more root ds ls eqs i p h e item above j q l f = either (cases j i l)
  where
    cases : (j i : ℕ) → j < i + 1 → (j < i) ⊎ (j ≡ i)
    cases j i l = grind arith

    either : (j < i) ⊎ (j ≡ i) → IsGoodEquation root ds ls eqs j q
    either (inl m) = h j q m f
    either (inr s) =
        let same : p ≡ q = same_Some p q (sym e ∙ ap (slice_get eqs) (sym s) ∙ f) in
        record {
          item = subst (IsItem root ds ls) same item;
          above = λ k r t u. subst (λ x. poly_cmp r x ≡ Less) same (above k r (t ∙ s) u);
        }

-- the equation at a place is above the one before it
pub above_before : (eqs : List (List Term)) (i : ℕ) (b p : List Term) → 0 < i → slice_get eqs (i - 1) ≡ Some b → poly_cmp b p ≡ Less → (j : ℕ) (q : List Term) → suc j ≡ i → slice_get eqs j ≡ Some q → poly_cmp q p ≡ Less
above_before eqs i b p l e f j q s g =
    let at : j ≡ i - 1 = omega arith in
    subst (λ x. poly_cmp x p ≡ Less) (same_Some b q (sym e ∙ ap (slice_get eqs) (sym at) ∙ g)) f

pub above_none : (eqs : List (List Term)) (i : ℕ) (p : List Term) → (0 < i → ⊥) → (j : ℕ) (q : List Term) → suc j ≡ i → slice_get eqs j ≡ Some q → poly_cmp q p ≡ Less
above_none eqs i p l j q s g = let m : 0 < i = omega arith in absurd (l m)
