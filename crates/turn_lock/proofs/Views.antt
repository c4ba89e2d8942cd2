-- Views, after one seat's change.
use Rattle.std.proofs.Common.{rules, ◌≡◌, ◌≢◌, ◌⊎◌, ℕ, zero, suc, List, [], ◌∷◌, set, slice_get, Some, refl, sym, subst, ◌∙◌, inl, inr, ⊎_elim}
use lib.ListN.{get_elem?}
use mathlib.Core.Option.{some}
use Rattle.atomic_table.proofs.Lists.{at_set}
use Rattle.std.specs.FinMap.{get}
use Rattle.turn_lock.specs.declared.view.View.{View}
use Rattle.turn_lock.specs.Turn.{IsView, EachView, AreApart, HaveNoPlaceInBoth}

module _ {E O : Type 0} where
  pub view_set : (views : List (List (View E O))) (id : ℕ) (xs : List (View E O)) (j i : ℕ) (v : View E O) → IsView (set views id xs) j i v
      → ((j ≡ id) × (slice_get xs i ≡ Some v)) ⊎ ((j ≢ id) × IsView views j i v)
  view_set views id xs j i v is = ⊎_elim (λ (t : (j ≡ id) × (xs ≡ is.all)). inl (t.0, subst (λ (l : List (View E O)). slice_get l i ≡ Some v) (sym t.1) is.at))
      (λ (t : (j ≢ id) × (get_elem? views j ≡ some is.all)). inr (t.0, record { all = is.all; seat = t.1; at = is.at })) (at_set views id j xs is.all is.seat)

  pub only : (w v : View E O) (i : ℕ) → slice_get (w ∷ []) i ≡ Some v → (i ≡ 0) × (w ≡ v)
  only w v zero e = (refl, grind rules)
  only w v (suc i) e = grind rules

  pub each_set : (P : ℕ → ℕ → View E O → Type 0) (views : List (List (View E O))) (id : ℕ) (w : View E O) → P id 0 w → ((j i : ℕ) (v : View E O) → j ≢ id → IsView views j i v → P j i v)
      → EachView (set views id (w ∷ [])) P
  each_set P views id w mine others j i v is = ⊎_elim (λ (t : (j ≡ id) × (slice_get (w ∷ []) i ≡ Some v)). let o = only w v i t.1 in
      subst (λ (x : ℕ × ℕ × View E O). P x.0 x.1 x.2) (λ k. (sym t.0 k, sym o.0 k, o.1 k)) mine)
      (λ (t : (j ≢ id) × IsView views j i v). others j i v t.0 t.1) (view_set views id (w ∷ []) j i v is)

  -- what is new among a seat's own entries is nobody's
  pub apart_set : (views : List (List (View E O))) (id : ℕ) (w : View E O) → AreApart views
      → ((j i : ℕ) (v : View E O) → j ≢ id → IsView views j i v → HaveNoPlaceInBoth w.own v.own)
      → AreApart (set views id (w ∷ []))
  apart_set views id w apart mine j i l k u v a b differ n d e f g =
      ⊎_elim (λ (s : (j ≡ id) × (slice_get (w ∷ []) i ≡ Some u)). let o = only w u i s.1 in
      ⊎_elim (λ (t : (l ≡ id) × (slice_get (w ∷ []) k ≡ Some v)). let p = only w v k t.1 in differ (s.0 ∙ sym t.0) (o.0 ∙ sym p.0))
      (λ (t : (l ≢ id) × IsView views l k v). mine l k v t.0 t.1 n d e (subst (λ (x : View E O). get x.own n ≡ Some d) (sym o.1) f) g)
      (view_set views id (w ∷ []) l k v b))
      (λ (s : (j ≢ id) × IsView views j i u).
      ⊎_elim (λ (t : (l ≡ id) × (slice_get (w ∷ []) k ≡ Some v)). let p = only w v k t.1 in mine j i u s.0 s.1 n e d (subst (λ (x : View E O). get x.own n ≡ Some e) (sym p.1) g) f)
      (λ (t : (l ≢ id) × IsView views l k v). apart j i l k u v s.1 t.1 differ n d e f g)
      (view_set views id (w ∷ []) l k v b))
      (view_set views id (w ∷ []) j i u a)
