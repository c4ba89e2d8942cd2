-- Two seats become one.
use Rattle.std.proofs.Common.{◌≡◌, ◌≢◌, ◌⊎◌, ℕ, zero, suc, false, true≢false, List, [], ◌∷◌, set, slice_get, slice_set, slice_index, Option, Some, refl, sym, ap, subst, ◌∙◌, inl, inr, ⊎_elim, arith}
use lib.ListN.{get_elem?}
use mathlib.Core.List.{IsPrefix}
use mathlib.Core.Option.{some, none, some-injective}
use mathlib.Core.Option as maybe
use Rattle.atomic_table.proofs.Lists.{set_else}
use Rattle.atomic_table.specs.Table.{Me, keeps, Allows, Joins}
use Rattle.turn_lock.specs.declared.view.View.{View}
use Rattle.turn_lock.specs.Turn.{IsView, Stands, IsHome, IsOut, IsKept, IsLongerOf, Merges, joined}
use Rattle.turn_lock.proofs.Prefixes.{prefix_either, prefix_refl}
use Rattle.turn_lock.proofs.Views.{view_set, each_set, apart_set}
use Rattle.turn_lock.proofs.Places.{get_both_own}
use Rattle.turn_lock.specs.Lock.{HasMerged}
use Rattle.turn_lock.proofs.Standing.{join_stands}
use Rattle.turn_lock.proofs.Moves.{Rule}

-- Where a view stood before two seats were joined: the first seat's, the other's, or one of a third seat
abbrev Stood : ℕ → ℕ → ℕ → ℕ → ℕ → ℕ → Type 0
Stood id other j i j' i' = ((j ≡ id) × (i ≡ 0) × (j' ≡ id) × (i' ≡ 0)) ⊎ (((j ≡ id) × (i ≡ 1) × (j' ≡ other) × (i' ≡ 0)) ⊎ ((j ≢ id) × (j ≢ other) × (j' ≡ j) × (i' ≡ i)))

one_place : (id other j i l k j' i' l' k' : ℕ) → other ≢ id → Stood id other j i j' i' → Stood id other l k l' k' → j' ≡ l' → i' ≡ k' → (j ≡ l) × (i ≡ k)
one_place id other j i l k j' i' l' k' apart a b e f = grind arith

module _ {E O : Type 0} where
  record Was (views : List (List (View E O))) (id other j i : ℕ) (u : View E O) : Type 0 where
    pub seat : ℕ
    pub place : ℕ
    pub view : IsView views seat place u
    pub stood : Stood id other j i seat place

  two : (v w u : View E O) (i : ℕ) → slice_get (v ∷ w ∷ []) i ≡ Some u → ((i ≡ 0) × (v ≡ u)) ⊎ ((i ≡ 1) × (w ≡ u))
  two v w u zero e = inl (refl, cc e)
  two v w u (suc zero) e = inr (refl, cc e)
  two v w u (suc (suc i)) e = absurd (cc e)

  back : (views : List (List (View E O))) (id other : ℕ) (v w : View E O) → other ≢ id → IsView views id 0 v → IsView views other 0 w → (j i : ℕ) (u : View E O)
      → IsView (set (set views id (v ∷ w ∷ [])) other []) j i u → Was views id other j i u
  back views id other v w apart a b j i u is = ⊎_elim (λ (t : (j ≡ other) × (slice_get [] i ≡ Some u)). absurd (cc t.1))
      (λ (t : (j ≢ other) × IsView (set views id (v ∷ w ∷ [])) j i u). ⊎_elim
      (λ (s : (j ≡ id) × (slice_get (v ∷ w ∷ []) i ≡ Some u)). ⊎_elim
      (λ (r : (i ≡ 0) × (v ≡ u)). record { seat = id; place = 0; view = subst (λ (x : View E O). IsView views id 0 x) r.1 a; stood = inl (s.0, r.0, refl, refl) })
      (λ (r : (i ≡ 1) × (w ≡ u)). record { seat = other; place = 0; view = subst (λ (x : View E O). IsView views other 0 x) r.1 b; stood = inr (inl (s.0, r.0, refl, refl)) })
      (two v w u i s.1))
      (λ (s : (j ≢ id) × IsView views j i u). record { seat = j; place = i; view = s.1; stood = inr (inr (s.0, t.0, refl, refl)) })
      (view_set views id (v ∷ w ∷ []) j i u t.1))
      (view_set (set views id (v ∷ w ∷ [])) other [] j i u is)

  elsewhere : (views : List (List (View E O))) (id j i : ℕ) (xs : List (View E O)) (u : View E O) → j ≢ id → IsView views j i u → IsView (set views id xs) j i u
  elsewhere views id j i xs u apart is = record { all = is.all; seat = set_else views id j xs apart ∙ is.seat; at = is.at }

  same_view : (views : List (List (View E O))) (j i : ℕ) (u v : View E O) → IsView views j i u → IsView views j i v → u ≡ v
  same_view views j i u v a b = let l : a.all ≡ b.all = some-injective a.all b.all (sym a.seat ∙ b.seat) in
      let e : Some u ≡ Some v = sym a.at ∙ ap (λ (x : List (View E O)). slice_get x i) l ∙ b.at in cc e

module _ {V E O : Type 0} (origin : V → O) (history : V → List E) (o : O) where
  -- no idle view is the holder's
  not_holder : (words : List ℕ) (homes : List (maybe.Option (Option V))) (views : List (List (View E O))) (h : IsOut origin history words homes views) (j : ℕ) (v : View E O) → IsView views j 0 v → v.holds ≡ false → h.holder ≢ j
  not_holder words homes views h j v is idle same = let e : h.mine ≡ v = same_view views h.holder 0 h.mine v h.at (subst (λ (k : ℕ). IsView views k 0 v) (sym same) is) in
      true≢false (sym h.has ∙ ap (λ (x : View E O). x.holds) e ∙ idle)

  pub joins : (id : ℕ) (v : View E O) (other : ℕ) (w : View E O) → v.holds ≡ false → w.holds ≡ false → Joins (Rule origin history o) id (v ∷ []) other (w ∷ []) (v ∷ w ∷ []) []
  joins id v other w idle_v idle_w s kept at apart at' =
      let views = s.views in
      let a : IsView views id 0 v = record { all = v ∷ []; seat = at; at = refl } in
      let b : IsView views other 0 w = record { all = w ∷ []; seat = sym (set_else views id other (v ∷ w ∷ []) apart) ∙ at'; at = refl } in
      let old : (j i : ℕ) (u : View E O) → IsView (set (set views id (v ∷ w ∷ [])) other []) j i u → Was views id other j i u = back views id other v w apart a b in
      record {
        stage = ⊎_elim
            (λ (h : IsHome origin history s.words s.homes views). inl (record {
              value = h.value;
              word = h.word;
              home = h.home;
              free = λ j i u is. let t = old j i u is in h.free t.seat t.place u t.view;
              from = λ j i u is. let t = old j i u is in h.from t.seat t.place u t.view;
              seen = λ j i u is. let t = old j i u is in h.seen t.seat t.place u t.view;
            }))
            (λ (h : IsOut origin history s.words s.homes views).
            let p = not_holder s.words s.homes views h id v a idle_v in let q = not_holder s.words s.homes views h other w b idle_w in
            inr (record {
              holder = h.holder;
              mine = h.mine;
              word = h.word;
              home = h.home;
              has = h.has;
              at = elsewhere (set views id (v ∷ w ∷ [])) other h.holder 0 [] h.mine q (elsewhere views id h.holder 0 (v ∷ w ∷ []) h.mine p h.at);
              free = λ j i u is. λ away. let t = old j i u is in h.free t.seat t.place u t.view (λ x y. still id other j i t.seat t.place h.holder p q t.stood away x y);
              seen = λ j i u is. let t = old j i u is in h.seen t.seat t.place u t.view;
            })) kept.stage;
        same = λ j i u is. let t = old j i u is in kept.same t.seat t.place u t.view;
        apart = λ j i l k u x c d differ n f e p q. let t = old j i u c in let r = old l k x d in
            kept.apart t.seat t.place r.seat r.place u x t.view r.view (λ y z. let m = one_place id other j i l k t.seat t.place r.seat r.place apart t.stood r.stood y z in differ m.0 m.1) n f e p q;
        stands = λ j i u is. let t = old j i u is in kept.stands t.seat t.place u t.view;
      } where
        still : (id other j i j' i' h : ℕ) → h ≢ id → h ≢ other → Stood id other j i j' i' → (j ≡ h → i ≡ 0 → ⊥) → j' ≡ h → i' ≡ 0 → ⊥
        still id other j i j' i' h p q st away x y = ⊎_elim (λ t. p (sym x ∙ t.2)) (λ r. ⊎_elim (λ t. q (sym x ∙ t.2)) (λ t. away (sym t.2 ∙ x) (sym t.3 ∙ y)) r) st

module _ {V E O : Type 0} (origin : V → O) (history : V → List E) (o : O) where
  -- of two beginnings of one history, one is the longer
  longer : (xs ys h : List E) → IsPrefix xs h → IsPrefix ys h → (l : List E) × IsLongerOf xs ys l
  longer xs ys h p q = ⊎_elim (λ (r : IsPrefix xs ys). (ys, record { one = inr refl; first = r; second = prefix_refl ys }))
      (λ (r : IsPrefix ys xs). (xs, record { one = inl refl; first = prefix_refl xs; second = r })) (prefix_either xs ys h p q)

  within : (xs ys h l : List E) → IsLongerOf xs ys l → IsPrefix xs h → IsPrefix ys h → IsPrefix l h
  within xs ys h list l p q = ⊎_elim (λ e. subst (λ z. IsPrefix z h) (sym e) p) (λ e. subst (λ z. IsPrefix z h) (sym e) q) l.one

  whole : (words : List ℕ) (homes : List (maybe.Option (Option V))) (views : List (List (View E O))) → IsKept origin history o words homes views → (id : ℕ) (v w : View E O) → get_elem? views id ≡ some (v ∷ w ∷ [])
      → v.holds ≡ false → (list : List E) → IsLongerOf v.seen w.seen list → IsKept origin history o words homes (set views id (joined v w list ∷ []))
  whole words homes views kept id v w at idle list l =
      let a : IsView views id 0 v = record { all = v ∷ w ∷ []; seat = at; at = refl } in
      let b : IsView views id 1 w = record { all = v ∷ w ∷ []; seat = at; at = refl } in
      let m : View E O = joined v w list in
      record {
        stage = ⊎_elim
            (λ (h : IsHome origin history words homes views). inl (record {
              value = h.value;
              word = h.word;
              home = h.home;
              free = each_set (λ j i u. u.holds ≡ false) views id m refl (λ j i u x is. h.free j i u is);
              from = each_set (λ j i u. u.origin ≡ origin h.value) views id m (h.from id 0 v a) (λ j i u x is. h.from j i u is);
              seen = each_set (λ j i u. IsPrefix u.seen (history h.value)) views id m (within v.seen w.seen (history h.value) list l (h.seen id 0 v a) (h.seen id 1 w b)) (λ j i u x is. h.seen j i u is);
            }))
            (λ (h : IsOut origin history words homes views).
            let p = not_holder origin history o words homes views h id v a idle in
            inr (record {
              holder = h.holder;
              mine = h.mine;
              word = h.word;
              home = h.home;
              has = h.has;
              at = elsewhere views id h.holder 0 (m ∷ []) h.mine p h.at;
              free = each_set (λ j i u. (j ≡ h.holder → i ≡ 0 → ⊥) → u.holds ≡ false) views id m (λ _. refl) (λ j i u x is. h.free j i u is);
              seen = each_set (λ j i u. IsPrefix u.seen h.mine.seen) views id m (within v.seen w.seen h.mine.seen list l (h.seen id 0 v a) (h.seen id 1 w b)) (λ j i u x is. h.seen j i u is);
            })) kept.stage;
        same = each_set (λ j i u. u.origin ≡ o) views id m (kept.same id 0 v a) (λ j i u x is. kept.same j i u is);
        apart = apart_set views id m kept.apart (λ j i u x is n d e f g. ⊎_elim (λ f'. kept.apart id 0 j i v u a is (λ s _. x (sym s)) n d e f' g) (λ f'. kept.apart id 1 j i w u b is (λ s _. x (sym s)) n d e f' g) (get_both_own v.own w.own n d f));
        stands = each_set (λ j i u. Stands u) views id m
            (join_stands v w list (kept.stands id 0 v a) (kept.stands id 1 w b) l)
            (λ j i u x is. kept.stands j i u is);
      }

  one_history : (words : List ℕ) (homes : List (maybe.Option (Option V))) (views : List (List (View E O))) → IsKept origin history o words homes views → (id : ℕ) (v w : View E O) → IsView views id 0 v → IsView views id 1 w → (l : List E) × IsLongerOf v.seen w.seen l
  one_history words homes views kept id v w a b = ⊎_elim (λ (h : IsHome origin history words homes views). longer v.seen w.seen (history h.value) (h.seen id 0 v a) (h.seen id 1 w b))
      (λ (h : IsOut origin history words homes views). longer v.seen w.seen h.mine.seen (h.seen id 0 v a) (h.seen id 1 w b)) kept.stage

  same_word : (words : List ℕ) (homes : List (maybe.Option (Option V))) (views : List (List (View E O))) → IsKept origin history o words homes views → slice_set words 0 (slice_index words 0) ≡ words
  same_word words homes views kept = ⊎_elim (λ (h : IsHome origin history words homes views). subst (λ (l : List ℕ). slice_set l 0 (slice_index l 0) ≡ l) (sym h.word) refl)
      (λ (h : IsOut origin history words homes views). subst (λ (l : List ℕ). slice_set l 0 (slice_index l 0) ≡ l) (sym h.word) refl) kept.stage

  pub merges : (id : ℕ) (v w : View E O) → v.holds ≡ false → Allows (Rule origin history o) 1 id (v ∷ w ∷ [], []) 0 (λ n. n) (λ n new. Merges {V = V} (v ∷ w ∷ [], []) new)
  merges id v w idle s kept len at fits =
      let a : IsView s.views id 0 v = record { all = v ∷ w ∷ []; seat = at; at = refl } in
      let b : IsView s.views id 1 w = record { all = v ∷ w ∷ []; seat = at; at = refl } in
      let l = one_history s.words s.homes s.views kept id v w a b in (
        joined v w l.0 ∷ [],
        keeps,
        tt,
        subst (λ (x : List ℕ). IsKept origin history o x s.homes (set s.views id (joined v w l.0 ∷ []))) (sym (same_word s.words s.homes s.views kept)) (whole s.words s.homes s.views kept id v w at idle l.0 l.1),
        record { mine = v; other = w; seen = l.0; was = refl; longer = l.1; apart = λ n d e f g. kept.apart id 0 id 1 v w a b (λ x y. absurd (cc y)) n d e f g; is = refl },
      )

first_or : {A : Type 0} → A → List A → A
first_or d [] = d
first_or d (x ∷ xs) = x

second_or : {A : Type 0} → A → List A → A
second_or d [] = d
second_or d (x ∷ []) = d
second_or d (x ∷ y ∷ ys) = y

pub has_merged : {V E O : Type 0} (v w : View E O) (me other me3 me4 : Me (Option V) (List (View E O))) → me ≡ (v ∷ [], []) → other ≡ (w ∷ [], []) → me3 ≡ (v ∷ w ∷ [], []) → Merges {V = V} me3 me4 → HasMerged {V = V} me other me4
unfolding first_or second_or
has_merged {V} {E} {O} v w me other me3 me4 p q r m =
    let both : ◌≡◌ {A = Me (Option V) (List (View E O))} (v ∷ w ∷ [], []) (m.mine ∷ m.other ∷ [], []) = sym r ∙ m.was in
    let a : v ≡ m.mine = ap (λ (x : Me (Option V) (List (View E O))). first_or v x.0) both in
    let b : w ≡ m.other = ap (λ (x : Me (Option V) (List (View E O))). second_or w x.0) both in
    record {
      mine = m.mine;
      theirs = m.other;
      seen = m.seen;
      was = p ∙ (λ i. (a i ∷ [], []));
      other_was = q ∙ (λ i. (b i ∷ [], []));
      longer = m.longer;
      apart = m.apart;
      is = m.is;
    }
