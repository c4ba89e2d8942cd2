-- Lists that begin with others.
use Rattle.std.proofs.Common.{rules, ◌≡◌, ◌⊎◌, ℕ, zero, suc, ◌+◌, ◌<◌, ◌≤◌, List, [], ◌∷◌, ◌++◌, length, drop, slice_get, Some, refl, sym, ap, subst, ◌∙◌, inl, inr, ⊎_elim, append_assoc, arith, length-append}
use Rattle.std.proofs.lemmas.List.{append-nil}
use mathlib.Core.List.{IsPrefix}

module _ {A : Type 0} where
  pub prefix_refl : (xs : List A) → IsPrefix xs xs
  prefix_refl xs = ([], append-nil xs)

  pub prefix_trans : (xs ys zs : List A) → IsPrefix xs ys → IsPrefix ys zs → IsPrefix xs zs
  prefix_trans xs ys zs p q = (p.0 ++ q.0, sym (append_assoc xs p.0 q.0) ∙ ap (λ (l : List A). l ++ q.0) p.1 ∙ q.1)

  pub get_longer : (xs ys : List A) (n : ℕ) (a : A) → slice_get xs n ≡ Some a → slice_get (xs ++ ys) n ≡ Some a
  get_longer [] ys n a e = grind rules
  get_longer (x ∷ xs) ys zero a e = e
  get_longer (x ∷ xs) ys (suc n) a e = get_longer xs ys n a e

  pub prefix_get : (xs ys : List A) (n : ℕ) (a : A) → IsPrefix xs ys → slice_get xs n ≡ Some a → slice_get ys n ≡ Some a
  prefix_get xs ys n a p e = subst (λ (l : List A). slice_get l n ≡ Some a) p.1 (get_longer xs p.0 n a e)

  pub get_length : (xs : List A) (n : ℕ) (a : A) → slice_get xs n ≡ Some a → n < length xs
  get_length [] n a e = grind rules
  get_length (x ∷ xs) zero a e = omega arith
  get_length (x ∷ xs) (suc n) a e = let r = get_length xs n a e in omega arith

  pub prefix_length : (xs ys : List A) → IsPrefix xs ys → length xs ≤ length ys
  prefix_length xs ys p = let e : length (xs ++ p.0) ≡ length ys = ap length p.1 in omega (arith, length-append xs p.0)

  pub get_drop : (n : ℕ) (xs : List A) (k : ℕ) (a : A) → slice_get (drop n xs) k ≡ Some a → slice_get xs (n + k) ≡ Some a
  get_drop zero xs k a e = let q : k ≡ 0 + k = omega arith in subst (λ (j : ℕ). slice_get xs j ≡ Some a) q e
  get_drop (suc n) [] k a e = grind rules
  get_drop (suc n) (x ∷ xs) k a e = let q : suc (n + k) ≡ suc n + k = omega arith in subst (λ (j : ℕ). slice_get (x ∷ xs) j ≡ Some a) q (get_drop n xs k a e)

  -- of two beginnings of one list, one begins the other
  pub prefix_either : (xs ys zs : List A) → IsPrefix xs zs → IsPrefix ys zs → IsPrefix xs ys ⊎ IsPrefix ys xs
  prefix_either [] ys zs p q = inl (ys, refl)
  prefix_either (x ∷ xs) [] zs p q = inr (x ∷ xs, refl)
  prefix_either (x ∷ xs) (y ∷ ys) [] p q = absurd (cc (p.1))
  prefix_either (x ∷ xs) (y ∷ ys) (z ∷ zs) p q =
      let heads : x ≡ y = cc (p.1, q.1) in
      ⊎_elim (λ (r : IsPrefix xs ys). inl (r.0, cc (heads, r.1))) (λ (r : IsPrefix ys xs). inr (r.0, cc (heads, r.1))) (prefix_either xs ys zs (p.0, cc (p.1)) (q.0, cc (q.1)))
