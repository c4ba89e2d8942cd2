-- Lists in which each element is related to all later ones.
use Rattle.std.specs.Prelude.{◌≡◌, ◌≢◌, ℕ, zero, suc, ◌<◌, Bool, true, false, cond, List, [], ◌∷◌, ◌++◌, map, filter, length, slice_index_or, Contains, refl}
use Rattle.std.proofs.Common.{arith, ◌∙◌, ap, subst, inl, inr}
use Rattle.std.proofs.lemmas.List.Elements.{Contains-append_cases, Contains-get_or}
use Rattle.label_tuples.specs.Order.{Ascending}
use Rattle.label_tuples.proofs.Members.{none_contained, contains_here, contains_there, contains_cons}

abbrev pub Sorted : {X : Type 0} → (X → X → Type 0) → List X → Type 0
Sorted R [] = Unit {0}
Sorted {X} R (x ∷ xs) = ((y : X) → Contains xs y → R x y) × Sorted R xs

module _ {X : Type 0} (R : X → X → Type 0) where
  pub sorted_from_ascending : (Before : X → X → Type 0) → ((x y : X) → y ≢ x → ¬ Before y x → R x y) → (xs : List X) → Ascending Before xs → Sorted R xs
  sorted_from_ascending Before h [] a = tt
  sorted_from_ascending Before h (x ∷ xs) a = (λ y m. let r = a.0 y m in h x y r.0 r.1, sorted_from_ascending Before h xs a.1)

  pub sorted_append : (xs ys : List X) → Sorted R xs → Sorted R ys → ((x y : X) → Contains xs x → Contains ys y → R x y) → Sorted R (xs ++ ys)
  sorted_append [] ys h k s = k
  sorted_append (x ∷ xs) ys h k s = (
    λ y m. elim (Contains-append_cases xs ys y m) [ inl i ↦ h.0 y i | inr i ↦ s x y (contains_here x xs) i ],
    sorted_append xs ys h.1 k (λ z y i j. s z y (contains_there z x xs i) j),
  )

  pub contains_filter : (p : X → Bool) (xs : List X) (x : X) → Contains (filter p xs) x → Contains xs x × (p x ≡ true)
  contains_filter p [] x h = absurd (none_contained x h)
  contains_filter p (y ∷ xs) x h = by_test (p y) refl (contains_filter p xs x) h
    where
      by_test : (b : Bool) → p y ≡ b → (Contains (filter p xs) x → Contains xs x × (p x ≡ true)) → Contains (cond b (y ∷ filter p xs) (filter p xs)) x → Contains (y ∷ xs) x × (p x ≡ true)
      by_test true e rest m =
          elim (contains_cons x y (filter p xs) m) [
            | inl q ↦ (subst (λ z. Contains (y ∷ xs) z) q (contains_here y xs), subst (λ z. p z ≡ true) q e)
            | inr i ↦ let r = rest i in (contains_there x y xs r.0, r.1)
          ]
      by_test false e rest m = let r = rest m in (contains_there x y xs r.0, r.1)

  pub filter_contains : (p : X → Bool) (xs : List X) (x : X) → Contains xs x → p x ≡ true → Contains (filter p xs) x
  filter_contains p [] x h e = absurd (none_contained x h)
  filter_contains p (y ∷ xs) x h e =
      elim (contains_cons x y xs h) [
        | inl q ↦ by_head (p y) q (ap p q ∙ e)
        | inr i ↦ by_tail (p y) (filter_contains p xs x i e)
      ]
    where
      by_head : (b : Bool) → y ≡ x → b ≡ true → Contains (cond b (y ∷ filter p xs) (filter p xs)) x
      by_head true q e = subst (λ z. Contains (y ∷ filter p xs) z) q (contains_here y (filter p xs))
      by_head false q e = absurd (cc e)

      by_tail : (b : Bool) → Contains (filter p xs) x → Contains (cond b (y ∷ filter p xs) (filter p xs)) x
      by_tail true m = contains_there x y (filter p xs) m
      by_tail false m = m

  pub sorted_filter : (p : X → Bool) (xs : List X) → Sorted R xs → Sorted R (filter p xs)
  sorted_filter p [] h = tt
  sorted_filter p (x ∷ xs) h = by_test (p x) (sorted_filter p xs h.1)
    where
      by_test : (b : Bool) → Sorted R (filter p xs) → Sorted R (cond b (x ∷ filter p xs) (filter p xs))
      by_test true k = (λ y m. h.0 y (contains_filter p xs y m).0, k)
      by_test false k = k

  pub sorted_at : (xs : List X) (i j : ℕ) (d : X) → Sorted R xs → i < j → j < length xs → R (slice_index_or xs i d) (slice_index_or xs j d)
  sorted_at [] i j d h k l = absurd (omega (arith, l))
  sorted_at (x ∷ xs) zero zero d h k l = absurd (omega (arith, k))
  sorted_at (x ∷ xs) zero (suc j) d h k l = h.0 (slice_index_or xs j d) (Contains-get_or xs j d (omega arith))
  sorted_at (x ∷ xs) (suc i) zero d h k l = absurd (omega (arith, k))
  sorted_at (x ∷ xs) (suc i) (suc j) d h k l = sorted_at xs i j d h.1 (omega arith) (omega arith)

module _ {T X : Type 0} (f : T → X) where
  pub contains_map : (ts : List T) (x : X) → Contains (map f ts) x → (t : T) × (Contains ts t × (f t ≡ x))
  contains_map [] x h = absurd (none_contained x h)
  contains_map (t ∷ ts) x h =
      elim (contains_cons x (f t) (map f ts) h) [
        | inl e ↦ (t, (contains_here t ts, e))
        | inr m ↦ let r = contains_map ts x m in (r.0, (contains_there r.0 t ts r.1.0, r.1.1))
      ]

  pub map_contains : (ts : List T) (t : T) → Contains ts t → Contains (map f ts) (f t)
  map_contains [] t h = absurd (none_contained t h)
  map_contains (s ∷ ts) t h =
      elim (contains_cons t s ts h) [
        | inl e ↦ subst (λ u. Contains (f s ∷ map f ts) (f u)) e (contains_here (f s) (map f ts))
        | inr m ↦ contains_there (f t) (f s) (map f ts) (map_contains ts t m)
      ]

  pub sorted_map : (R : T → T → Type 0) (S : X → X → Type 0) → ((t u : T) → R t u → S (f t) (f u)) → (ts : List T) → Sorted R ts → Sorted S (map f ts)
  sorted_map R S h [] s = tt
  sorted_map R S h (t ∷ ts) s = (
    λ y m. let r = contains_map ts y m in subst (λ z. S (f t) z) r.1.1 (h t r.0 (s.0 r.0 r.1.0)),
    sorted_map R S h ts s.1,
  )

  pub filter-map : (p : X → Bool) (ts : List T) → filter p (map f ts) ≡ map f (filter (λ t. p (f t)) ts)
  filter-map p [] = refl
  filter-map p (t ∷ ts) = by_test (p (f t)) (filter-map p ts)
    where
      by_test : (b : Bool) → filter p (map f ts) ≡ map f (filter (λ u. p (f u)) ts) → cond b (f t ∷ filter p (map f ts)) (filter p (map f ts)) ≡ map f (cond b (t ∷ filter (λ u. p (f u)) ts) (filter (λ u. p (f u)) ts))
      by_test true e = ap (λ us. f t ∷ us) e
      by_test false e = e
