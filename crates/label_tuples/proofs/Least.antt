-- What `find` gives in a list in ascending order is the least element that passes.
use Rattle.std.specs.Prelude.{◌≡◌, ◌≢◌, ℕ, zero, suc, ◌<◌, Bool, true, false, not, cond, Option, Some, None, List, [], ◌∷◌, ◌++◌, Contains, find, filter_map, refl}
use Rattle.std.proofs.Common.{arith, sym as back, ◌∙◌, ap, subst, inl, inr}
use Rattle.std.proofs.lemmas.List.Elements.{Contains-append_cases, filter_map-append}
use Rattle.label_tuples.specs.Extended.{below, every, Longer, singles, pairs, triples, fours, fives, sixes, all_singles, all_pairs, all_triples, all_fours, all_fives, all_sixes}
use Rattle.label_tuples.specs.Order.{IsLeastFault, Then, Ascending, Before1, Before2, Before3, Before4, Before5, Before6}
use Rattle.label_tuples.proofs.Members.{none_contained, contains_here, contains_there, contains_cons, contains_flat_map, contains_filter_map, contains_below}

module _ {X : Type 0} (Before : X → X → Type 0) where
  ascending_append : (xs ys : List X) → Ascending Before xs → Ascending Before ys → ((x y : X) → Contains xs x → Contains ys y → (y ≢ x) × ¬ Before y x) → Ascending Before (xs ++ ys)
  ascending_append [] ys h k s = k
  ascending_append (x ∷ xs) ys h k s = (
    λ y m. elim (Contains-append_cases xs ys y m) [ inl i ↦ h.0 y i | inr i ↦ s x y (contains_here x xs) i ],
    ascending_append xs ys h.1 k (λ z y i j. s z y (contains_there z x xs i) j),
  )

  pub find_passes : (p : X → Bool) (xs : List X) (t : X) → find p xs ≡ Some t → (p t ≡ true) × Contains xs t
  find_passes p [] t e = absurd (cc e)
  find_passes p (x ∷ xs) t e = by_test (p x) refl (λ k. find_passes p xs t k) e
    where
      by_test : (b : Bool) → p x ≡ b → (find p xs ≡ Some t → (p t ≡ true) × Contains xs t) → cond b (Some x) (find p xs) ≡ Some t → (p t ≡ true) × Contains (x ∷ xs) t
      by_test true h more e = (subst (λ y. p y ≡ true) (cc e) h, subst (λ y. Contains (x ∷ xs) y) (cc e) (contains_here x xs))
      by_test false h more e = let r = more e in (r.0, contains_there t x xs r.1)

  pub find_none : (p : X → Bool) (xs : List X) → find p xs ≡ None → (s : X) → Contains xs s → p s ≡ false
  find_none p [] e s m = absurd (none_contained s m)
  find_none p (x ∷ xs) e s m = by_test (p x) refl (λ k i. find_none p xs k s i) e
    where
      by_test : (b : Bool) → p x ≡ b → (find p xs ≡ None → Contains xs s → p s ≡ false) → cond b (Some x) (find p xs) ≡ None → p s ≡ false
      by_test true h more e = absurd (cc e)
      by_test false h more e = elim (contains_cons s x xs m) [ inl q ↦ subst (λ y. p y ≡ false) q h | inr i ↦ more e i ]

  -- none that is before the first that passes does
  pub find_least : ((x : X) → ¬ Before x x) → (p : X → Bool) (xs : List X) (t : X) → Ascending Before xs → find p xs ≡ Some t → (s : X) → Contains xs s → Before s t → p s ≡ false
  find_least ir p [] t a e s m b = absurd (none_contained s m)
  find_least ir p (x ∷ xs) t a e s m b = by_test (p x) refl (λ k i. find_least ir p xs t a.1 k s i b) e
    where
      by_test : (v : Bool) → p x ≡ v → (find p xs ≡ Some t → Contains xs s → p s ≡ false) → cond v (Some x) (find p xs) ≡ Some t → p s ≡ false
      by_test true h more e =
          let q : x ≡ t = cc e in
          elim (contains_cons s x xs m) [
            | inl z ↦ absurd (ir t (subst (λ y. Before y t) (back z ∙ q) b))
            | inr i ↦ absurd ((a.0 s i).1 (subst (λ y. Before s y) (back q) b))
          ]
      by_test false h more e = elim (contains_cons s x xs m) [ inl z ↦ subst (λ y. p y ≡ false) z h | inr i ↦ more e i ]

ascending_map : {U : Type 0} (Before : U → U → Type 0) (make : ℕ → U) (n : ℕ) → ((x y : ℕ) → x < y → (make y ≢ make x) × ¬ Before (make y) (make x)) → Ascending Before (filter_map (λ x. Some (make x)) (below n))
ascending_map Before make zero h = tt
ascending_map {U} Before make (suc n) h =
    subst (λ us. Ascending Before us) (back (filter_map-append (λ x. Some (make x)) (below n) (n ∷ [])))
    (ascending_append Before (filter_map (λ x. Some (make x)) (below n)) (make n ∷ []) (ascending_map Before make n h) (λ y m. absurd (none_contained y m), tt)
    (λ u v m k.
    let r = contains_filter_map (λ x. Some (make x)) (below n) u m in
    let i : r.0 < n = contains_below n r.0 r.1.0 in
    let e : make r.0 ≡ u = cc r.1.1 in
    elim (contains_cons v (make n) [] k) [
      | inl q ↦ let two = h r.0 n i in (λ z. two.0 (q ∙ z ∙ back e), λ z. two.1 (subst (λ y. Before y (make r.0)) (back q) (subst (λ y. Before v y) (back e) z)))
      | inr z ↦ absurd (none_contained v z)
    ]))

some_same : {U : Type 0} {u v : U} → Some u ≡ Some v → u ≡ v
some_same e = cc

module _ {T U : Type 0} (longer : Longer T U) (Before : T → T → Type 0) where
  open longer use {make, front, last, front_is, last_is}

  pub then_irreflexive : ((t : T) → ¬ Before t t) → (u : U) → ¬ Then longer Before u u
  then_irreflexive ir u b = elim b [ inl h ↦ ir (front u) h | inr h ↦ omega (arith, h.1) ]

  one_front : (t : T) → ¬ Before t t → (x y : ℕ) → x < y → (make t y ≢ make t x) × ¬ Then longer Before (make t y) (make t x)
  one_front t ir x y h = (
    λ e. let q : y ≡ x = back (last_is t y) ∙ ap last e ∙ last_is t x in omega arith,
    λ b. elim b [
      | inl z ↦ ir (subst (λ s. Before s t) (front_is t y) (subst (λ s. Before (front (make t y)) s) (front_is t x) z))
      | inr z ↦ let q : y < x = subst (λ w. w < x) (last_is t y) (subst (λ w. last (make t y) < w) (last_is t x) z.1) in omega arith
    ],
  )

  pub ascending_every : ((t : T) → ¬ Before t t) → (ts : List T) (n : ℕ) → Ascending Before ts → Ascending (Then longer Before) (every make ts n)
  ascending_every ir [] n a = tt
  ascending_every ir (t ∷ ts) n a =
      ascending_append (Then longer Before) (filter_map (λ x. Some (make t x)) (below n)) (every make ts n)
      (ascending_map (Then longer Before) (make t) n (one_front t (ir t))) (ascending_every ir ts n a.1)
      (λ u v m k.
      let r = contains_filter_map (λ x. Some (make t x)) (below n) u m in
      let s = contains_flat_map (λ w. filter_map (λ x. Some (make w x)) (below n)) ts v k in
      let q = contains_filter_map (λ x. Some (make s.0 x)) (below n) v s.1.1 in
      let fu : front u ≡ t = ap front (back (some_same r.1.1)) ∙ front_is t r.0 in
      let fv : front v ≡ s.0 = ap front (back (some_same q.1.1)) ∙ front_is s.0 q.0 in
      let two = a.0 s.0 s.1.0 in (
        λ e. two.0 (back fv ∙ ap front e ∙ fu),
        λ b. elim b [
          | inl z ↦ two.1 (subst (λ w. Before w t) fv (subst (λ w. Before (front v) w) fu z))
          | inr z ↦ two.0 (back fv ∙ z.0 ∙ fu)
        ],
      ))

pub irreflexive1 : (t : ℕ) → ¬ Before1 t t
irreflexive1 = then_irreflexive singles (λ _ _. ⊥) (λ t h. h)

pub irreflexive2 : (t : ℕ × ℕ) → ¬ Before2 t t
irreflexive2 = then_irreflexive pairs Before1 irreflexive1

pub irreflexive3 : (t : ℕ × ℕ × ℕ) → ¬ Before3 t t
irreflexive3 = then_irreflexive triples Before2 irreflexive2

pub irreflexive4 : (t : ℕ × ℕ × ℕ × ℕ) → ¬ Before4 t t
irreflexive4 = then_irreflexive fours Before3 irreflexive3

pub irreflexive5 : (t : ℕ × ℕ × ℕ × ℕ × ℕ) → ¬ Before5 t t
irreflexive5 = then_irreflexive fives Before4 irreflexive4

pub irreflexive6 : (t : ℕ × ℕ × ℕ × ℕ × ℕ × ℕ) → ¬ Before6 t t
irreflexive6 = then_irreflexive sixes Before5 irreflexive5

pub all_singles_ascending : (n : ℕ) → Ascending Before1 (all_singles n)
all_singles_ascending n = ascending_every singles (λ _ _. ⊥) (λ t h. h) (tt ∷ []) n (λ y m. absurd (none_contained y m), tt)

all_pairs_ascending : (n : ℕ) → Ascending Before2 (all_pairs n)
all_pairs_ascending n = ascending_every pairs Before1 irreflexive1 (all_singles n) n (all_singles_ascending n)

pub all_triples_ascending : (n : ℕ) → Ascending Before3 (all_triples n)
all_triples_ascending n = ascending_every triples Before2 irreflexive2 (all_pairs n) n (all_pairs_ascending n)

pub all_fours_ascending : (n : ℕ) → Ascending Before4 (all_fours n)
all_fours_ascending n = ascending_every fours Before3 irreflexive3 (all_triples n) n (all_triples_ascending n)

all_fives_ascending : (n : ℕ) → Ascending Before5 (all_fives n)
all_fives_ascending n = ascending_every fives Before4 irreflexive4 (all_fours n) n (all_fours_ascending n)

pub all_sixes_ascending : (n : ℕ) → Ascending Before6 (all_sixes n)
all_sixes_ascending n = ascending_every sixes Before5 irreflexive5 (all_fives n) n (all_fives_ascending n)

not_false : (b : Bool) → not b ≡ false → b ≡ true
not_false true h = refl
not_false false h = absurd (cc h)

not_true : (b : Bool) → not b ≡ true → b ≡ false
not_true true h = absurd (cc h)
not_true false h = refl

pub least_fault : {X : Type 0} (Before : X → X → Type 0) → ((x : X) → ¬ Before x x) → (xs : List X) → Ascending Before xs → (holds : X → Bool) (o : Option X) → o ≡ find (λ x. not (holds x)) xs → IsLeastFault Before xs holds o
least_fault Before ir xs a holds None e = λ s m. not_false (holds s) (find_none Before (λ x. not (holds x)) xs (back e) s m)
least_fault Before ir xs a holds (Some t) e =
    let p = find_passes Before (λ x. not (holds x)) xs t (back e) in
    (not_true (holds t) p.0, p.1, λ s m b. not_false (holds s) (find_least Before ir (λ x. not (holds x)) xs t a (back e) s m b))

-- what `first_fault` finds among all tuples
module _ {X : Type 0} (Before : X → X → Type 0) (ir : (x : X) → ¬ Before x x) (holds : X → Bool) where
  pub least_of : (all found : List X) → Ascending Before all → found ≡ all → (o : Option X) → o ≡ find (λ x. not (holds x)) found → IsLeastFault Before all holds o
  least_of all found a s o e = least_fault Before ir all a holds o (e ∙ ap (λ xs. find (λ x. not (holds x)) xs) s)

pub least_single : (n : ℕ) (holds : ℕ → Bool) (found : List ℕ) (o : Option ℕ) → found ≡ all_singles n → o ≡ find (λ x. not (holds x)) found → IsLeastFault Before1 (all_singles n) holds o
least_single n holds found o s e = least_of Before1 irreflexive1 holds (all_singles n) found (all_singles_ascending n) s o e

pub least_triple : (n : ℕ) (holds : ℕ × ℕ × ℕ → Bool) (found : List (ℕ × ℕ × ℕ)) (o : Option (ℕ × ℕ × ℕ)) → found ≡ all_triples n → o ≡ find (λ x. not (holds x)) found → IsLeastFault Before3 (all_triples n) holds o
least_triple n holds found o s e = least_of Before3 irreflexive3 holds (all_triples n) found (all_triples_ascending n) s o e

pub least_four : (n : ℕ) (holds : ℕ × ℕ × ℕ × ℕ → Bool) (found : List (ℕ × ℕ × ℕ × ℕ)) (o : Option (ℕ × ℕ × ℕ × ℕ)) → found ≡ all_fours n → o ≡ find (λ x. not (holds x)) found → IsLeastFault Before4 (all_fours n) holds o
least_four n holds found o s e = least_of Before4 irreflexive4 holds (all_fours n) found (all_fours_ascending n) s o e
