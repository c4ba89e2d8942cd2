-- Each step keeps the rule of the deck.
use Rattle.std.proofs.Common.{rules, ◌≡◌, ◌≢◌, ◌⊎◌, ℕ, zero, suc, ◌+◌, ◌<◌, Bool, true, false, true≢false, List, [], ◌∷◌, ◌++◌, length, set, slice_get, Some, refl, sym, ap, subst, ◌∙◌, inl, inr, ⊎_elim, arith, append_assoc, length-append}
use lib.ListN.{get_elem?}
use mathlib.Core.Option.{some, some-injective, some-ne-none}
use native.Mathlib.Decide.{ℕ_discrete}
use mathlib.Core.Logic.{dite}
use Rattle.atomic_table.proofs.Lists.{at_set, at_snoc, at_longer, set_else}
use Rattle.std.specs.FinMap.{FinMap, get, insert, empty, gets}
use Rattle.std.specs.Ordering.{nat_cmp}
use Rattle.crossbeam_deque.specs.Tasks.{Pushes, Takes, Admits}
use Rattle.steal_deck.specs.declared.rule.Known.{Known}
use Rattle.steal_deck.specs.Deck.{newcomer, with_pushed, IsKnown, Has, Fits, StandsOnce, IsDeck, TakesFirst, OwnerTakes}

nothing : (n x : ℕ) → get (empty {R = nat_cmp}) n ≡ Some x → ⊥
nothing n x h = grind (gets, rules)

put : (m : FinMap nat_cmp ℕ) (k x q y : ℕ) → get (insert m k x) q ≡ Some y → ((q ≡ k) × (x ≡ y)) ⊎ (get m q ≡ Some y)
put m k x q y h = dite (ℕ_discrete q k) (λ same. inl (same, grind (gets, rules))) (λ other. inr (grind (gets, rules)))

put_here : (m : FinMap nat_cmp ℕ) (k x : ℕ) → get (insert m k x) k ≡ Some x
put_here m k x = grind (gets, rules)

put_kept : (m : FinMap nat_cmp ℕ) (k x q y : ℕ) → q ≢ k → get m q ≡ Some y → get (insert m k x) q ≡ Some y
put_kept m k x q y n h = grind (gets, rules)

set_at : {A : Type 0} (l : List A) (i : ℕ) (a b : A) → get_elem? l i ≡ some a → get_elem? (set l i b) i ≡ some b
set_at [] i a b e = absurd (some-ne-none a (sym e))
set_at (x ∷ xs) zero a b e = refl
set_at (x ∷ xs) (suc i) a b e = set_at xs i a b e

get_more : (xs ys : List ℕ) (n a : ℕ) → slice_get xs n ≡ Some a → slice_get (xs ++ ys) n ≡ Some a
get_more [] ys n a e = absurd (cc e)
get_more (x ∷ xs) ys zero a e = e
get_more (x ∷ xs) ys (suc n) a e = get_more xs ys n a e

get_next : (xs ys : List ℕ) (a : ℕ) → slice_get (xs ++ a ∷ ys) (length xs) ≡ Some a
get_next [] ys a = refl
get_next (x ∷ xs) ys a = get_next xs ys a

only : (w v : Known) (j : ℕ) → IsKnown (w ∷ []) j v → (j ≡ 0) × (w ≡ v)
only w v zero is = (refl, some-injective w v is)
only w v (suc j) is = absurd (some-ne-none v (sym is))

fits_new : (b : Bool) (pushed : List ℕ) (n : ℕ) → (b ≡ true → pushed ≡ []) → Fits pushed n (newcomer b)
fits_new b pushed n h = record { below = omega arith; owners = λ e. sym (h e); places = λ k t. absurd (nothing k t.0 t.1); numbers = λ k x e. absurd (nothing k x e) }

pub begins : IsDeck [] (newcomer true ∷ [])
begins = record {
  taken = [];
  pushed = [];
  split = refl;
  fits = λ j v is. subst (λ (u : Known). Fits [] 0 u) (only (newcomer true) v j is).1 (fits_new true [] 0 (λ _. refl));
  one_owner = λ i j u v a b _ _. (only (newcomer true) u i a).0 ∙ sym (only (newcomer true) v j b).0;
  each = λ k less. absurd (omega arith);
}

pub admits : Admits IsDeck (newcomer false)
admits items views d =
    let w : Known = newcomer false in
    record {
      taken = d.taken;
      pushed = d.pushed;
      split = d.split;
      fits = λ j v is. ⊎_elim (λ e. d.fits j v e) (λ (e : w ≡ v). subst (λ (u : Known). Fits d.pushed (length d.taken) u) e (fits_new false d.pushed (length d.taken) (λ z. absurd (true≢false (sym z))))) (at_snoc views w v j is);
      one_owner = λ i j u v a b p q. ⊎_elim (λ a'. ⊎_elim (λ b'. d.one_owner i j u v a' b' p q) (λ (e : w ≡ v). absurd (true≢false (sym q ∙ sym (ap (λ (x : Known). x.owner) e)))) (at_snoc views w v j b))
          (λ (e : w ≡ u). absurd (true≢false (sym p ∙ sym (ap (λ (x : Known). x.owner) e)))) (at_snoc views w u i a);
      each = λ k less. let s = d.each k less in record {
        port = s.port;
        view = s.view;
        is = at_longer views (w ∷ []) s.port s.view s.is;
        has = s.has;
        once = λ j v is h. ⊎_elim (λ e. s.once j v e h) (λ (e : w ≡ v). absurd (nothing k h.0 (subst (λ (u : Known). get u.own k ≡ Some h.0) (sym e) h.1))) (at_snoc views w v j is);
      };
    }

-- a view that changes at one port, and keeps the places that it had
stands_on : (views : List Known) (port : ℕ) (v w : Known) (k : ℕ) → IsKnown views port v → (Has v k → Has w k) → (Has w k → Has v k) → StandsOnce views k → StandsOnce (set views port w) k
stands_on views port v w k at go back s = dite (ℕ_discrete s.port port)
    (λ same. let e : s.view ≡ v = some-injective s.view v (sym s.is ∙ subst (λ (j : ℕ). get_elem? views j ≡ some v) (sym same) at) in record {
      port = port;
      view = w;
      is = set_at views port v w at;
      has = go (subst (λ (u : Known). Has u k) e s.has);
      once = λ j u is h. ⊎_elim (λ (t : (j ≡ port) × (w ≡ u)). t.0) (λ (t : (j ≢ port) × (get_elem? views j ≡ some u)). s.once j u t.1 h ∙ same) (at_set views port j w u is);
    })
    (λ other. record {
      port = s.port;
      view = s.view;
      is = set_else views port s.port w other ∙ s.is;
      has = s.has;
      once = λ j u is h. ⊎_elim (λ (t : (j ≡ port) × (w ≡ u)). absurd (other (sym (s.once port v at (back (subst (λ (x : Known). Has x k) (sym t.1) h))))))
          (λ (t : (j ≢ port) × (get_elem? views j ≡ some u)). s.once j u t.1 h) (at_set views port j w u is);
    })

one_owner_on : (views : List Known) (port : ℕ) (v w : Known) → IsKnown views port v → w.owner ≡ v.owner → ((i j : ℕ) (u x : Known) → IsKnown views i u → IsKnown views j x → u.owner ≡ true → x.owner ≡ true → i ≡ j)
    → (i j : ℕ) (u x : Known) → IsKnown (set views port w) i u → IsKnown (set views port w) j x → u.owner ≡ true → x.owner ≡ true → i ≡ j
one_owner_on views port v w at same old i j u x a b p q =
    ⊎_elim (λ (s : (i ≡ port) × (w ≡ u)). let vo : v.owner ≡ true = sym same ∙ ap (λ (y : Known). y.owner) s.1 ∙ p in
    ⊎_elim (λ (t : (j ≡ port) × (w ≡ x)). s.0 ∙ sym t.0) (λ (t : (j ≢ port) × (get_elem? views j ≡ some x)). s.0 ∙ old port j v x at t.1 vo q) (at_set views port j w x b))
    (λ (s : (i ≢ port) × (get_elem? views i ≡ some u)).
    ⊎_elim (λ (t : (j ≡ port) × (w ≡ x)). let vo : v.owner ≡ true = sym same ∙ ap (λ (y : Known). y.owner) t.1 ∙ q in old i port u v s.1 at p vo ∙ sym t.0)
    (λ (t : (j ≢ port) × (get_elem? views j ≡ some x)). old i j u x s.1 t.1 p q) (at_set views port j w x b))
    (at_set views port i w u a)

pub pushes : (port : ℕ) (v : Known) (xs : List ℕ) → v.owner ≡ true → Pushes IsDeck port v xs (λ w. w ≡ with_pushed v xs)
pushes port v xs owner items views d at =
    let w : Known = with_pushed v xs in
    let f = d.fits port v at in (
      w,
      record {
        taken = d.taken;
        pushed = d.pushed ++ xs;
        split = ap (λ (l : List ℕ). l ++ xs) d.split ∙ append_assoc d.taken items xs;
        fits = λ j u is. ⊎_elim
            (λ (t : (j ≡ port) × (w ≡ u)). subst (λ (y : Known). Fits (d.pushed ++ xs) (length d.taken) y) t.1
            (record { below = f.below; owners = λ _. ap (λ (l : List ℕ). l ++ xs) (f.owners owner); places = f.places; numbers = λ k x e. get_more d.pushed xs k x (f.numbers k x e) }))
            (λ (t : (j ≢ port) × (get_elem? views j ≡ some u)). let g = d.fits j u t.1 in
            record { below = g.below; owners = λ e. absurd (t.0 (d.one_owner j port u v t.1 at e owner)); places = g.places; numbers = λ k x e. get_more d.pushed xs k x (g.numbers k x e) })
            (at_set views port j w u is);
        one_owner = one_owner_on views port v w at refl d.one_owner;
        each = λ k less. stands_on views port v w k at (λ h. h) (λ h. h) (d.each k less);
      },
      refl,
    )

took : (port : ℕ) (v : Known) (x : ℕ) (items : List ℕ) (views : List Known) (d : IsDeck (x ∷ items) views) → IsKnown views port v
    → IsDeck items (set views port (record { owner = v.owner; pushed = v.pushed; seen = length d.taken + 1; own = insert v.own (length d.taken) x }))
took port v x items views d at =
    let n = length d.taken in
    let w : Known = record { owner = v.owner; pushed = v.pushed; seen = n + 1; own = insert v.own n x } in
    let f = d.fits port v at in
    let long : length (d.taken ++ x ∷ []) ≡ n + 1 = length-append d.taken (x ∷ []) in
    let next : slice_get d.pushed n ≡ Some x = subst (λ (l : List ℕ). slice_get l n ≡ Some x) (sym d.split) (get_next d.taken items x) in
    record {
      taken = d.taken ++ x ∷ [];
      pushed = d.pushed;
      split = d.split ∙ sym (append_assoc d.taken (x ∷ []) items);
      fits = λ j u is. ⊎_elim
          (λ (t : (j ≡ port) × (w ≡ u)). subst (λ (y : Known). Fits d.pushed (length (d.taken ++ x ∷ [])) y) t.1
          (record {
            below = omega (arith, long);
            owners = f.owners;
            places = λ k h. ⊎_elim (λ (s : (k ≡ n) × (x ≡ h.0)). let e = s.0 in omega arith) (λ s. let p = f.places k (h.0, s) in let q = f.below in omega arith) (put v.own n x k h.0 h.1);
            numbers = λ k y e. ⊎_elim (λ (s : (k ≡ n) × (x ≡ y)). subst (λ (z : ℕ × ℕ). slice_get d.pushed z.0 ≡ Some z.1) (λ i. (sym s.0 i, s.1 i)) next) (λ s. f.numbers k y s) (put v.own n x k y e);
          }))
          (λ (t : (j ≢ port) × (get_elem? views j ≡ some u)). let g = d.fits j u t.1 in let p = g.below in
          record { below = omega (arith, long); owners = g.owners; places = g.places; numbers = g.numbers })
          (at_set views port j w u is);
      one_owner = one_owner_on views port v w at refl d.one_owner;
      each = λ k less. dite (ℕ_discrete k n)
          (λ same. record {
            port = port;
            view = w;
            is = set_at views port v w at;
            has = (x, subst (λ (j : ℕ). get w.own j ≡ Some x) (sym same) (put_here v.own n x));
            once = λ j u is h. ⊎_elim (λ (t : (j ≡ port) × (w ≡ u)). t.0)
                (λ (t : (j ≢ port) × (get_elem? views j ≡ some u)). let g = d.fits j u t.1 in let p = g.places k h in let q = g.below in absurd (omega arith)) (at_set views port j w u is);
          })
          (λ other. let before : k < n = omega (arith, long, less) in
          stands_on views port v w k at (λ h. (h.0, put_kept v.own n x k h.0 other h.1)) (λ h. ⊎_elim (λ (s : (k ≡ n) × (x ≡ h.0)). absurd (other s.0)) (λ s. (h.0, s)) (put v.own n x k h.0 h.1)) (d.each k before));
    }

pub takes : (port : ℕ) (v : Known) → Takes IsDeck port v 1 (TakesFirst v)
takes port v [] items views less _ d at = absurd (omega arith)
takes port v (x ∷ []) items views _ _ d at =
    let n = length d.taken in (
      record { owner = v.owner; pushed = v.pushed; seen = n + 1; own = insert v.own n x },
      took port v x items views d at,
      record { number = x; place = n; is = refl; later = (d.fits port v at).below; after = refl },
    )
takes port v (x ∷ y ∷ ys) items views _ most d at = absurd (omega arith)

pub owner_takes : (port : ℕ) (v : Known) → v.owner ≡ true → Takes IsDeck port v 1 (OwnerTakes v)
owner_takes port v owner [] items views less _ d at = absurd (omega arith)
owner_takes port v owner (x ∷ []) items views _ _ d at =
    let n = length d.taken in (
      record { owner = v.owner; pushed = v.pushed; seen = n + 1; own = insert v.own n x },
      took port v x items views d at,
      record {
        takes = record { number = x; place = n; is = refl; later = (d.fits port v at).below; after = refl };
        stands = subst (λ (l : List ℕ). slice_get l n ≡ Some x) (sym ((d.fits port v at).owners owner ∙ d.split)) (get_next d.taken items x);
      },
    )
owner_takes port v owner (x ∷ y ∷ ys) items views _ most d at = absurd (omega arith)
