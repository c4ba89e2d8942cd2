-- Equations that are added at their places, and taken out.
use Rattle.std.specs.Prelude.{◌≡◌, ◌≢◌, ℕ, zero, suc, ◌<◌, ◌⊎◌, Bool, true, false, if◌then◌else◌, nat_lt, List, [], ◌∷◌, length, remove, refl}
use mathlib.Core.Logic.{inl, inr}
use Rattle.std.proofs.Common.{arith, subst, sym, ◌∙◌, ap}
use Rattle.std.specs.List.{AllByRecursion, Contains}
use Rattle.std.specs.List.Sorted.{IsStrictlySortedBy}
use Rattle.std.specs.Ordering.{ordering_reverse}
use Rattle.std.specs.declared.cmp.Ordering.{Ordering}
use Rattle.std.specs.declared.cmp.Ordering.TheVariants.{Less, Equal, Greater}
use Rattle.sparse_poly.specs.declared.Term.{Term}
use Rattle.sparse_poly.specs.Order.{poly_cmp}
use Rattle.sparse_poly.specs.OrderLaws.{poly_cmp-IsAntisymmetric, poly_cmp-IsTotalOrder}
use Rattle.derive_lines.specs.declared.parts.Item.{Item}
use Rattle.derive_lines.specs.declared.parts.Item.TheVariants as item
use Rattle.case_rules.specs.declared.equation.Equation.{Equation}
use Rattle.case_rules.specs.Cases.{equation_at, polys_of}
use Rattle.case_rules.specs.Kept.{older, by_place, placed, added, added_if, all_added, item_if, item_of}

-- the older item is one of both
either_item : (a b : Item) → (older a b ≡ a) ⊎ (older a b ≡ b)
either_item (item.Root i) b = inl refl
either_item (item.Decision j) b = inl refl
either_item (item.Line k) (item.Root i) = inr refl
either_item (item.Line k) (item.Decision j) = inr refl
either_item (item.Line k) (item.Line n) = each (nat_lt n k)
  where
    each : (b : Bool) → (item.Line (if b then n else k) ≡ item.Line k) ⊎ (item.Line (if b then n else k) ≡ item.Line n)
    each true = inr refl
    each false = inl refl

module _ (P : Equation → Type 0) where
  -- what holds of two equations with one polynomial holds of that with the older item
  merged : (e f : Equation) → f.poly ≡ e.poly → P e → P f → P (record { poly = f.poly; item = older f.item e.item })
  merged e f g p q = each (either_item f.item e.item)
    where
      each : (older f.item e.item ≡ f.item) ⊎ (older f.item e.item ≡ e.item) → P (record { poly = f.poly; item = older f.item e.item })
      each (inl h) = subst (λ i. P (record { poly = f.poly; item = i })) (sym h) q
      each (inr h) = subst (λ i. P (record { poly = f.poly; item = i })) (sym h) (subst (λ r. P (record { poly = r; item = e.item })) (sym g) p)

  every_placed : (e : Equation) (es : List Equation) → P e → AllByRecursion P es → AllByRecursion P (placed e es)
  every_placed e [] p h = (p, tt)
  every_placed e (f ∷ es) p h = each (poly_cmp f.poly e.poly) refl (every_placed e es p h.1)
    where
      each : (o : Ordering) → poly_cmp f.poly e.poly ≡ o → AllByRecursion P (placed e es) → AllByRecursion P (by_place o e f es (placed e es))
      each Less g r = (h.0, r)
      each Equal g r = (merged e f (poly_cmp-IsAntisymmetric f.poly e.poly g) p h.0, h.1)
      each Greater g r = (p, h)

  -- zero is dropped, so nothing need hold of it
  pub every_added : (e : Equation) (es : List Equation) → (e.poly ≢ [] → P e) → AllByRecursion P es → AllByRecursion P (added e es)
  every_added e es p h = each e.poly refl
    where
      each : (q : List Term) → e.poly ≡ q → AllByRecursion P (added_if q e es)
      each [] g = h
      each (t ∷ ts) g = every_placed e es (p (λ z. cc (sym g ∙ z))) h

  pub every_all_added : (more es : List Equation) → AllByRecursion (λ (e : Equation). e.poly ≢ [] → P e) more → AllByRecursion P es → AllByRecursion P (all_added more es)
  every_all_added [] es p h = h
  every_all_added (e ∷ more) es p h = every_all_added more (added e es) p.1 (every_added e es p.0 h)

  pub every_removed : (es : List Equation) (i : ℕ) → AllByRecursion P es → AllByRecursion P (remove es i)
  every_removed [] zero h = h
  every_removed [] (suc i) h = h
  every_removed (e ∷ es) zero h = h.1
  every_removed (e ∷ es) (suc i) h = (h.0, every_removed es i h.1)

-- the polynomials of equations ascend
abbrev pub Ascend : List Equation → Type 0
Ascend es = IsStrictlySortedBy poly_cmp (polys_of es)

abbrev IsAboveAll : List Term → List Equation → Type 0
IsAboveAll p es = AllByRecursion (λ (q : List Term). poly_cmp p q ≡ Less) (polys_of es)

above_placed : (p : List Term) (e : Equation) (es : List Equation) → poly_cmp p e.poly ≡ Less → IsAboveAll p es → IsAboveAll p (placed e es)
above_placed p e [] l h = (l, tt)
above_placed p e (f ∷ es) l h = each (poly_cmp f.poly e.poly) (above_placed p e es l h.1)
  where
    each : (o : Ordering) → IsAboveAll p (placed e es) → IsAboveAll p (by_place o e f es (placed e es))
    each Less r = (h.0, r)
    each Equal r = h
    each Greater r = (l, h)

above_through : (p q : List Term) (es : List Equation) → poly_cmp p q ≡ Less → IsAboveAll q es → IsAboveAll p es
above_through p q [] l h = tt
above_through p q (e ∷ es) l h = (poly_cmp-IsTotalOrder.trans p q e.poly l h.0, above_through p q es l h.1)

ascend_placed : (e : Equation) (es : List Equation) → Ascend es → Ascend (placed e es)
unfolding IsStrictlySortedBy
ascend_placed e [] h = (tt, tt)
ascend_placed e (f ∷ es) h = each (poly_cmp f.poly e.poly) refl (ascend_placed e es h.1)
  where
    each : (o : Ordering) → poly_cmp f.poly e.poly ≡ o → Ascend (placed e es) → Ascend (by_place o e f es (placed e es))
    each Less g r = (above_placed f.poly e es g h.0, r)
    each Equal g r = h
    each Greater g r =
        let l : poly_cmp e.poly f.poly ≡ Less = poly_cmp-IsTotalOrder.antisymm e.poly f.poly ∙ ap ordering_reverse g in
        ((l, above_through e.poly f.poly es l h.0), h)

pub ascend_added : (e : Equation) (es : List Equation) → Ascend es → Ascend (added e es)
ascend_added e es h = each e.poly
  where
    each : (q : List Term) → Ascend (added_if q e es)
    each [] = h
    each (t ∷ ts) = ascend_placed e es h

pub ascend_all_added : (more es : List Equation) → Ascend es → Ascend (all_added more es)
ascend_all_added [] es h = h
ascend_all_added (e ∷ more) es h = ascend_all_added more (added e es) (ascend_added e es h)

above_removed : (p : List Term) (es : List Equation) (i : ℕ) → IsAboveAll p es → IsAboveAll p (remove es i)
above_removed p [] zero h = h
above_removed p [] (suc i) h = h
above_removed p (e ∷ es) zero h = h.1
above_removed p (e ∷ es) (suc i) h = (h.0, above_removed p es i h.1)

pub ascend_removed : (es : List Equation) (i : ℕ) → Ascend es → Ascend (remove es i)
unfolding IsStrictlySortedBy
ascend_removed [] zero h = h
ascend_removed [] (suc i) h = h
ascend_removed (e ∷ es) zero h = h.1
ascend_removed (e ∷ es) (suc i) h = (above_removed e.poly es i h.0, ascend_removed es i h.1)

-- a polynomial stands among equations
abbrev pub Stands : List Term → List Equation → Type 0
Stands p [] = ⊥
Stands p (e ∷ es) = (e.poly ≡ p) ⊎ Stands p es

stands_placed : (p : List Term) (e : Equation) (es : List Equation) → Stands p es → Stands p (placed e es)
stands_placed p e [] h = absurd h
stands_placed p e (f ∷ es) h = each (poly_cmp f.poly e.poly) h (stands_placed p e es)
  where
    each : (o : Ordering) → (f.poly ≡ p) ⊎ Stands p es → (Stands p es → Stands p (placed e es)) → Stands p (by_place o e f es (placed e es))
    each Less (inl g) r = inl g
    each Less (inr g) r = inr (r g)
    each Equal g r = g
    each Greater g r = inr g

stands_own : (e : Equation) (es : List Equation) → Stands e.poly (placed e es)
stands_own e [] = inl refl
stands_own e (f ∷ es) = each (poly_cmp f.poly e.poly) refl (stands_own e es)
  where
    each : (o : Ordering) → poly_cmp f.poly e.poly ≡ o → Stands e.poly (placed e es) → Stands e.poly (by_place o e f es (placed e es))
    each Less g r = inr r
    each Equal g r = inl (poly_cmp-IsAntisymmetric f.poly e.poly g)
    each Greater g r = inl refl

pub stands_added : (p : List Term) (e : Equation) (es : List Equation) → Stands p es → Stands p (added e es)
stands_added p e es h = each e.poly
  where
    each : (q : List Term) → Stands p (added_if q e es)
    each [] = h
    each (t ∷ ts) = stands_placed p e es h

-- an equation that is added is zero or stands there
pub own_added : (e : Equation) (es : List Equation) → (e.poly ≡ []) ⊎ Stands e.poly (added e es)
own_added e es = each e.poly refl
  where
    each : (q : List Term) → e.poly ≡ q → (e.poly ≡ []) ⊎ Stands e.poly (added_if q e es)
    each [] g = inl g
    each (t ∷ ts) g = inr (stands_own e es)

pub stands_all_added : (p : List Term) (more es : List Equation) → Stands p es → Stands p (all_added more es)
stands_all_added p [] es h = h
stands_all_added p (e ∷ more) es h = stands_all_added p more (added e es) (stands_added p e es h)

pub own_all_added : (p : List Term) (more es : List Equation) → Stands p more → (p ≡ []) ⊎ Stands p (all_added more es)
own_all_added p [] es h = absurd h
own_all_added p (e ∷ more) es (inr h) = own_all_added p more (added e es) h
own_all_added p (e ∷ more) es (inl g) = each (own_added e es)
  where
    each : (e.poly ≡ []) ⊎ Stands e.poly (added e es) → (p ≡ []) ⊎ Stands p (all_added more (added e es))
    each (inl z) = inl (sym g ∙ z)
    each (inr s) = inr (stands_all_added p more (added e es) (subst (λ q. Stands q (added e es)) g s))

pub stands_at : (es : List Equation) (i : ℕ) → i < length es → Stands (equation_at es i).poly es
stands_at [] i l = absurd (omega (arith, l))
stands_at (e ∷ es) zero l = inl refl
stands_at (e ∷ es) (suc i) l = inr (stands_at es i (omega (arith, l)))

-- what stands at another place stays
pub stands_removed : (es : List Equation) (i q : ℕ) → i < length es → i ≢ q → Stands (equation_at es i).poly (remove es q)
stands_removed [] i q l n = absurd (omega (arith, l))
stands_removed (e ∷ es) zero zero l n = absurd (n refl)
stands_removed (e ∷ es) (suc i) zero l n = stands_at es i (omega (arith, l))
stands_removed (e ∷ es) zero (suc q) l n = inl refl
stands_removed (e ∷ es) (suc i) (suc q) l n = inr (stands_removed es i q (omega (arith, l)) (λ g. n (ap suc g)))

-- what stands among equations is their q-th, or it stays where that is removed
pub stands_or_removed : (p : List Term) (es : List Equation) (q : ℕ) → Stands p es → ((equation_at es q).poly ≡ p) ⊎ Stands p (remove es q)
stands_or_removed p [] q h = absurd h
stands_or_removed p (e ∷ es) zero h = h
stands_or_removed p (e ∷ es) (suc q) (inl g) = inr (inl g)
stands_or_removed p (e ∷ es) (suc q) (inr h) = each (stands_or_removed p es q h)
  where
    each : ((equation_at es q).poly ≡ p) ⊎ Stands p (remove es q) → ((equation_at es q).poly ≡ p) ⊎ Stands p (e ∷ remove es q)
    each (inl g) = inl g
    each (inr s) = inr (inr s)

pub contains_stands : (p : List Term) (es : List Equation) → Contains (polys_of es) p → Stands p es
contains_stands p [] (k, l, e) = absurd (omega (arith, l))
contains_stands p (e ∷ es) (zero, l, g) = inl g
contains_stands p (e ∷ es) (suc k, l, g) = inr (contains_stands p es (k, omega (arith, l), g))

pub stands_contains : (p : List Term) (es : List Equation) → Stands p es → Contains (polys_of es) p
stands_contains p [] h = absurd h
stands_contains p (e ∷ es) (inl g) = (0, omega arith, g)
stands_contains p (e ∷ es) (inr h) = let c : Contains (polys_of es) p = stands_contains p es h in (suc c.0, omega (arith, c.1), c.2)

-- the item of a polynomial among equations is that of an equation with it, or the other item
pub item_of_is : (P : Item → Type 0) (p : List Term) (other : Item) (es : List Equation) → P other → AllByRecursion (λ (e : Equation). e.poly ≡ p → P e.item) es → P (item_of p other es)
item_of_is P p other [] o h = o
item_of_is P p other (e ∷ es) o h = each (poly_cmp e.poly p) refl (item_of_is P p other es o h.1)
  where
    each : (r : Ordering) → poly_cmp e.poly p ≡ r → P (item_of p other es) → P (item_if r e.item (item_of p other es))
    each Less g r = r
    each Equal g r = h.0 (poly_cmp-IsAntisymmetric e.poly p g)
    each Greater g r = r
