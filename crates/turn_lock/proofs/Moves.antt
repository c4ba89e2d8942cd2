-- Each step keeps the rule.
use Rattle.std.proofs.Common.{◌≡◌, ◌≢◌, ◌⊎◌, ◌==◌, ℕ, zero, suc, ◌+◌, true, false, true≢false, List, [], ◌∷◌, ◌++◌, length, drop, set, slice_get, slice_set, slice_index, Option, Some, refl, sym, ap, subst, ◌∙◌, inl, inr, ⊎_elim, arith}
use lib.ListN.{get_elem?}
use mathlib.Core.List.{IsPrefix}
use mathlib.Core.Option.{some, none, some-injective}
use native.Mathlib.Decide.{ℕ_discrete}
use mathlib.Core.Logic.{dite}
use mathlib.Core.Option as maybe
use prog.Atomic.{either}
use Rattle.atomic_table.proofs.Lists.{at_snoc, at_longer, set_again}
use Rattle.atomic_table.specs.Table.{State, Me, Act, keeps, takes, gives, Valid, homes_after, carried_after, Allows, Splits}
use Rattle.std.specs.FinMap.{get}
use Rattle.turn_lock.specs.declared.view.View.{View}
use Rattle.turn_lock.specs.Turn.{HaveNoPlaceInBoth, IsView, EachView, AreApart, Stands, IsHome, IsOut, IsKept, Tries, Releases, newcomer, at_turn, after_turn}
use Rattle.turn_lock.proofs.Prefixes.{prefix_refl, prefix_trans, get_length, prefix_length}
use Rattle.turn_lock.proofs.Views.{only, each_set, apart_set}
use Rattle.turn_lock.proofs.Places.{get_with_entries, none_own}
use Rattle.turn_lock.proofs.Standing.{found_stands, turn_stands}

at_of : {E O : Type 0} (views : List (List (View E O))) (id : ℕ) (v : View E O) → get_elem? views id ≡ some (v ∷ []) → IsView views id 0 v
at_of views id v at = record { all = v ∷ []; seat = at; at = refl }

pub in_range : {A : Type 0} (l : List A) (i : ℕ) (a b : A) → get_elem? l i ≡ some a → get_elem? (set l i b) i ≡ some b
in_range [] i a b e = absurd (mathlib.Core.Option.some-ne-none a (sym e))
in_range (x ∷ xs) zero a b e = refl
in_range (x ∷ xs) (suc i) a b e = in_range xs i a b e

module _ {V E O : Type 0} (origin : V → O) (history : V → List E) (o : O) where
  abbrev pub Rule : State (Option V) (List (View E O)) → Type 0
  Rule s = IsKept origin history o s.words s.homes s.views

  -- what a step has to show, at these words and homes
  abbrev pub Can : List (List (View E O)) → ℕ → Me (Option V) (List (View E O)) → (ℕ → ℕ) → (ℕ → Me (Option V) (List (View E O)) → Type 0) → List ℕ → List (maybe.Option (Option V)) → Type 0
  Can views id me f then words homes = (w : List (View E O)) × (a : Act (Option V)) × Valid homes me.1 a
      × IsKept origin history o (slice_set words 0 (f (slice_index words 0))) (homes_after homes me.1 a) (slice_set views id w)
      × then (slice_index words 0) (w, carried_after me.1 a)

  took : (views : List (List (View E O))) (id : ℕ) (v : View E O) (x : V) → get_elem? views id ≡ some (v ∷ []) → AreApart views → EachView views (λ j i u. u.origin ≡ o) → EachView views (λ j i u. Stands u)
      → EachView views (λ j i u. u.holds ≡ false) → EachView views (λ j i u. IsPrefix u.seen (history x))
      → IsKept origin history o (1 ∷ []) (none ∷ []) (set views id (at_turn v (history x) ∷ []))
  took views id v x at apart same stands free seen =
      let w = at_turn v (history x) in
      let is = at_of views id v at in
      record {
        stage = inr (record {
          holder = id;
          mine = w;
          word = refl;
          home = refl;
          has = refl;
          at = record { all = w ∷ []; seat = in_range views id (v ∷ []) (w ∷ []) at; at = refl };
          free = each_set (λ j i u. (j ≡ id → i ≡ 0 → ⊥) → u.holds ≡ false) views id w (λ no. absurd (no refl refl)) (λ j i u other is'. λ _. free j i u is');
          seen = each_set (λ j i u. IsPrefix u.seen (history x)) views id w (prefix_refl (history x)) (λ j i u other is'. seen j i u is');
        });
        same = each_set (λ j i u. u.origin ≡ o) views id w (same id 0 v is) (λ j i u other is'. same j i u is');
        apart = apart_set views id w apart (λ j i u other is' n d e f g. apart id 0 j i v u is is' (λ s _. other (sym s)) n d e f g);
        stands = each_set (λ j i u. Stands u) views id w (found_stands v (history x) (stands id 0 v is) (seen id 0 v is)) (λ j i u other is'. stands j i u is');
      }

  pub tries : (id : ℕ) (v : View E O) (c : List (ℕ × Option V)) → Allows Rule 1 id (v ∷ [], c) 0 (λ n. either (n == 0) 1 n) (λ n new. Tries origin history (v ∷ [], c) n new)
  tries id v c s kept len at fits =
      let Goal : List ℕ → List (maybe.Option (Option V)) → Type 0 = Can s.views id (v ∷ [], c) (λ n. either (n == 0) 1 n) (λ n new. Tries origin history (v ∷ [], c) n new) in
      ⊎_elim (λ (h : IsHome origin history s.words s.homes s.views).
      let is = at_of s.views id v at in
      subst (λ (p : List ℕ × List (maybe.Option (Option V))). Goal p.0 p.1) (λ k. (sym h.word k, sym h.home k)) (
        at_turn v (history h.value) ∷ [],
        takes 0 (Some h.value),
        refl,
        took s.views id v h.value at kept.apart kept.same kept.stands h.free h.seen,
        inl (refl, record { mine = v; value = h.value; was = refl; origin_is = sym (h.from id 0 v is); begins = h.seen id 0 v is; is = refl }),
      ))
      (λ (h : IsOut origin history s.words s.homes s.views).
      subst (λ (p : List ℕ × List (maybe.Option (Option V))). Goal p.0 p.1) (λ k. (sym h.word k, sym h.home k)) (
        v ∷ [],
        keeps,
        tt,
        subst (λ (l : List (List (View E O))). IsKept origin history o (1 ∷ []) (none ∷ []) l) (sym (set_again s.views id (v ∷ []) at))
            (subst (λ (p : List ℕ × List (maybe.Option (Option V))). IsKept origin history o p.0 p.1 s.views) (λ k. (h.word k, h.home k)) kept),
        inr ((λ z. absurd (cc z)), refl),
      ))
      kept.stage

  -- nobody else has the new places
  own_apart : (v u : View E O) (h : List E) → HaveNoPlaceInBoth v.own u.own → Stands u → IsPrefix u.seen v.seen → HaveNoPlaceInBoth (after_turn v h).own u.own
  own_apart v u h old stands before n d e f g = ⊎_elim (λ f'. old n d e f' g)
      (λ (t : (k : ℕ) × (n ≡ length v.seen + k) × (slice_get (drop (length v.seen) h) k ≡ Some d)).
      let below = get_length u.seen n e (stands n e g) in let le = prefix_length u.seen v.seen before in let p = t.1 in absurd (omega arith))
      (get_with_entries v.own (length v.seen) (drop (length v.seen) h) n d f)

  -- who holds the turn is the holder
  is_holder : (words : List ℕ) (homes : List (maybe.Option (Option V))) (views : List (List (View E O))) (out : IsOut origin history words homes views) (id : ℕ) (v : View E O)
      → get_elem? views id ≡ some (v ∷ []) → v.holds ≡ true → (id ≡ out.holder) × (out.mine ≡ v)
  is_holder words homes views out id v at has = dite (ℕ_discrete id out.holder)
      (λ same. let e : some (v ∷ []) ≡ some out.at.all = sym at ∙ ap (λ (j : ℕ). get_elem? views j) same ∙ out.at.seat in
      let l : v ∷ [] ≡ out.at.all = some-injective (v ∷ []) out.at.all e in
      (same, sym (only v out.mine 0 (subst (λ (y : List (View E O)). slice_get y 0 ≡ Some out.mine) (sym l) out.at.at)).1))
      (λ other. absurd (true≢false (sym has ∙ out.free id 0 v (at_of views id v at) (λ same _. other same))))

  gave : (views : List (List (View E O))) (id : ℕ) (v : View E O) (x : V) → get_elem? views id ≡ some (v ∷ []) → AreApart views → EachView views (λ j i u. u.origin ≡ o) → EachView views (λ j i u. Stands u)
      → ((j i : ℕ) (u : View E O) → j ≢ id → IsView views j i u → u.holds ≡ false) → EachView views (λ j i u. IsPrefix u.seen v.seen)
      → origin x ≡ v.origin → IsPrefix v.seen (history x)
      → IsKept origin history o (0 ∷ []) (some (Some x) ∷ []) (set views id (after_turn v (history x) ∷ []))
  gave views id v x at apart same stands free seen from begins =
      let w = after_turn v (history x) in
      let is = at_of views id v at in
      let mine : origin x ≡ o = from ∙ same id 0 v is in
      record {
        stage = inl (record {
          value = x;
          word = refl;
          home = refl;
          free = each_set (λ j i u. u.holds ≡ false) views id w refl free;
          from = each_set (λ j i u. u.origin ≡ origin x) views id w (sym from) (λ j i u other is'. same j i u is' ∙ sym mine);
          seen = each_set (λ j i u. IsPrefix u.seen (history x)) views id w (prefix_refl (history x)) (λ j i u other is'. prefix_trans u.seen v.seen (history x) (seen j i u is') begins);
        });
        same = each_set (λ j i u. u.origin ≡ o) views id w (same id 0 v is) (λ j i u other is'. same j i u is');
        apart = apart_set views id w apart (λ j i u other is'. own_apart v u (history x) (apart id 0 j i v u is is' (λ s _. other (sym s))) (stands j i u is') (seen j i u is'));
        stands = each_set (λ j i u. Stands u) views id w (turn_stands v (history x) (stands id 0 v is) begins) (λ j i u other is'. stands j i u is');
      }

  pub releases : (id : ℕ) (v : View E O) (x : V) → v.holds ≡ true → origin x ≡ v.origin → IsPrefix v.seen (history x)
      → Allows Rule 1 id (v ∷ [], (0, Some x) ∷ []) 0 (λ n. 0) (λ n new. Releases history (v ∷ [], (0, Some x) ∷ []) new)
  releases id v x has from begins s kept len at fits =
      let me : Me (Option V) (List (View E O)) = (v ∷ [], (0, Some x) ∷ []) in
      let Goal : List ℕ → List (maybe.Option (Option V)) → Type 0 = Can s.views id me (λ n. 0) (λ n new. Releases history me new) in
      ⊎_elim (λ (h : IsHome origin history s.words s.homes s.views). absurd (true≢false (sym has ∙ h.free id 0 v (at_of s.views id v at))))
      (λ (h : IsOut origin history s.words s.homes s.views).
      let who = is_holder s.words s.homes s.views h id v at has in
      subst (λ (p : List ℕ × List (maybe.Option (Option V))). Goal p.0 p.1) (λ k. (sym h.word k, sym h.home k)) (
        after_turn v (history x) ∷ [],
        gives,
        tt,
        gave s.views id v x at kept.apart kept.same kept.stands (λ j i u other is'. h.free j i u is' (λ same _. other (same ∙ sym who.0)))
            (subst (λ (m : View E O). EachView s.views (λ j i u. IsPrefix u.seen m.seen)) who.1 h.seen) from begins,
        record { mine = v; value = x; was = refl; is = refl },
      ))
      kept.stage

one_view : {E O : Type 0} (w v : View E O) (j i : ℕ) → IsView ((w ∷ []) ∷ []) j i v → (j ≡ 0) × (i ≡ 0) × (w ≡ v)
one_view w v zero i is = let l : w ∷ [] ≡ is.all = some-injective (w ∷ []) is.all is.seat in let r = only w v i (subst (λ y. slice_get y i ≡ Some v) (sym l) is.at) in (refl, r.0, r.1)
one_view w v (suc j) i is = absurd (mathlib.Core.Option.some-ne-none is.all (sym is.seat))

-- the table at the start
pub opens : {V E O : Type 0} (origin : V → O) (history : V → List E) (x : V) → IsKept origin history (origin x) (0 ∷ []) (some (Some x) ∷ []) ((newcomer (origin x) (history x) ∷ []) ∷ [])
opens {V} {E} {O} origin history x =
    let w : View E O = newcomer (origin x) (history x) in
    let same : EachView ((w ∷ []) ∷ []) (λ j i v. v.origin ≡ origin x) = λ j i v is. sym (ap (λ (u : View E O). u.origin) (one_view w v j i is).2) in
    record {
      stage = inl (record {
        value = x;
        word = refl;
        home = refl;
        free = λ j i v is. sym (ap (λ (u : View E O). u.holds) (one_view w v j i is).2);
        from = same;
        seen = λ j i v is. subst (λ (u : View E O). IsPrefix u.seen (history x)) (one_view w v j i is).2 (prefix_refl (history x));
      });
      same = same;
      apart = λ j i l k u v a b differ n d e f g. differ ((one_view w u j i a).0 ∙ sym (one_view w v l k b).0) ((one_view w u j i a).1 ∙ sym (one_view w v l k b).1);
      stands = λ j i v is. subst (λ (u : View E O). Stands u) (one_view w v j i is).2 (λ n e h. absurd (none_own n e h));
    }

-- a view of the list with one seat more is an old one, or the new seat's only one
view_snoc : {E O : Type 0} (views : List (List (View E O))) (w : View E O) (j i : ℕ) (v : View E O) → IsView (views ++ (w ∷ []) ∷ []) j i v → IsView views j i v ⊎ ((i ≡ 0) × (w ≡ v))
view_snoc views w j i v is = ⊎_elim (λ e. inl (record { all = is.all; seat = e; at = is.at }))
    (λ (e : w ∷ [] ≡ is.all). let r = only w v i (subst (λ y. slice_get y i ≡ Some v) (sym e) is.at) in inr r) (at_snoc views (w ∷ []) is.all j is.seat)

module _ {V E O : Type 0} (origin : V → O) (history : V → List E) (o : O) where
  each_snoc : (P : View E O → Type 0) (views : List (List (View E O))) (w : View E O) → EachView views (λ j i v. P v) → P w → EachView (views ++ (w ∷ []) ∷ []) (λ j i v. P v)
  each_snoc P views w old new j i v is = ⊎_elim (λ e. old j i v e) (λ (e : (i ≡ 0) × (w ≡ v)). subst P e.1 new) (view_snoc views w j i v is)

  longer_at : (views : List (List (View E O))) (w : View E O) (j i : ℕ) (v : View E O) → IsView views j i v → IsView (views ++ (w ∷ []) ∷ []) j i v
  longer_at views w j i v is = record { all = is.all; seat = at_longer views ((w ∷ []) ∷ []) j is.all is.seat; at = is.at }

  added : (words : List ℕ) (homes : List (maybe.Option (Option V))) (views : List (List (View E O))) (w : View E O) → IsKept origin history o words homes views → w.holds ≡ false → w.origin ≡ o
      → ((n : ℕ) (e : E) → get w.own n ≡ Some e → ⊥) → (id : ℕ) (v : View E O) → IsView views id 0 v → w.seen ≡ v.seen → IsKept origin history o words homes (views ++ (w ∷ []) ∷ [])
  added words homes views w kept idle from nothing id v is same = record {
    stage = ⊎_elim
        (λ (h : IsHome origin history words homes views). inl (record {
          value = h.value;
          word = h.word;
          home = h.home;
          free = each_snoc (λ u. u.holds ≡ false) views w h.free idle;
          from = each_snoc (λ u. u.origin ≡ origin h.value) views w h.from (from ∙ sym (kept.same id 0 v is) ∙ h.from id 0 v is);
          seen = each_snoc (λ u. IsPrefix u.seen (history h.value)) views w h.seen (subst (λ l. IsPrefix l (history h.value)) (sym same) (h.seen id 0 v is));
        }))
        (λ (h : IsOut origin history words homes views). inr (record {
          holder = h.holder;
          mine = h.mine;
          word = h.word;
          home = h.home;
          has = h.has;
          at = longer_at views w h.holder 0 h.mine h.at;
          free = λ j i u is'. λ no. ⊎_elim (λ e. h.free j i u e no) (λ (e : (i ≡ 0) × (w ≡ u)). sym (ap (λ (x : View E O). x.holds) e.1) ∙ idle) (view_snoc views w j i u is');
          seen = each_snoc (λ u. IsPrefix u.seen h.mine.seen) views w h.seen (subst (λ l. IsPrefix l h.mine.seen) (sym same) (h.seen id 0 v is));
        })) kept.stage;
    same = each_snoc (λ u. u.origin ≡ o) views w kept.same from;
    apart = λ j i l k u x a b differ n d e f g.
        ⊎_elim (λ a'. ⊎_elim (λ b'. kept.apart j i l k u x a' b' differ n d e f g) (λ (b' : (k ≡ 0) × (w ≡ x)). nothing n e (subst (λ (y : View E O). get y.own n ≡ Some e) (sym b'.1) g)) (view_snoc views w l k x b))
        (λ (a' : (i ≡ 0) × (w ≡ u)). nothing n d (subst (λ (y : View E O). get y.own n ≡ Some d) (sym a'.1) f)) (view_snoc views w j i u a);
    stands = each_snoc (λ u. Stands u) views w kept.stands (λ n e h. absurd (nothing n e h));
  }

  pub splits : (id : ℕ) (v : View E O) → Splits (Rule origin history o) id (v ∷ []) (v ∷ []) (newcomer v.origin v.seen ∷ [])
  splits id v s kept at =
      let is = at_of s.views id v at in
      subst (λ (l : List (List (View E O))). IsKept origin history o s.words s.homes (l ++ (newcomer v.origin v.seen ∷ []) ∷ [])) (sym (set_again s.views id (v ∷ []) at))
      (added s.words s.homes s.views (newcomer v.origin v.seen) kept refl (kept.same id 0 v is) none_own id v is refl)
