-- The one label that passes a test.
use Rattle.std.specs.Prelude.{◌≡◌, ℕ, zero, suc, ◌+◌, ◌<◌, ◌≤◌, ◌⊎◌, Bool, true, false, ◌==◌, cond, IsTrue, count_by, refl}
use Rattle.std.proofs.Common.{arith, ◌∙◌, ap, subst, inl, inr}
use Rattle.std.proofs.lemmas.Bool.Decides.{nat_tests}
use Rattle.std.proofs.lemmas.List.Sums.{sum_by_push}
use Rattle.label_tuples.specs.Extended.{below, all_singles}
use Rattle.label_tuples.proofs.Members.{singles_contain}
use Rattle.fusion_ring.specs.Fusion.{Fusion, channel}
use Rattle.fusion_ring.specs.Rings.{HoldsAtAll, has_dual, IsDual}
use Rattle.fusion_ring.proofs.Channels.{and_left, second_below}

split_below : (i n : ℕ) → i < suc n → (i < n) ⊎ (i ≡ n)
split_below i n h = grind arith

module _ (p : ℕ → Bool) where
  abbrev count : ℕ → ℕ
  count n = count_by p (below n)

  count_more : (n : ℕ) → count (suc n) ≡ count n + cond (p n) 1 0
  count_more n = sum_by_push (λ x. cond (p x) 1 0) (below n) n

  count_yes : (n : ℕ) → p n ≡ true → count (suc n) ≡ count n + 1
  count_yes n h = count_more n ∙ ap (λ b. count n + cond b 1 0) h

  pub count_some : (n x : ℕ) → x < n → p x ≡ true → 1 ≤ count n
  count_some zero x i h = absurd (omega (arith, i))
  count_some (suc n) x i h =
      elim (split_below x n i) [
        | inl k ↦ let m = count_some n x k h in let e = count_more n in omega arith
        | inr e ↦ let f = count_yes n (subst (λ y. p y ≡ true) e h) in omega arith
      ]

  pub count_one : (n x y : ℕ) → count n ≡ 1 → x < n → y < n → p x ≡ true → p y ≡ true → x ≡ y
  count_one zero x y e i j h k = absurd (omega (arith, i))
  count_one (suc n) x y e i j h k =
      elim (split_below x n i) [
        | inl s ↦
            elim (split_below y n j) [
              | inl t ↦ count_one n x y (let m = count_some n x s h in let f = count_more n in omega arith) s t h k
              | inr t ↦ let m = count_some n x s h in let f = count_yes n (subst (λ z. p z ≡ true) t k) in absurd (omega arith)
            ]
        | inr s ↦
            elim (split_below y n j) [
              | inl t ↦ let m = count_some n y t k in let f = count_yes n (subst (λ z. p z ≡ true) s h) in absurd (omega arith)
              | inr t ↦ omega arith
            ]
      ]

  pub count_none : (n : ℕ) → ((x : ℕ) → x < n → p x ≡ false) → count n ≡ 0
  count_none zero h = refl
  count_none (suc n) h =
      let e = count_none n (λ x i. h x (omega arith)) in
      let f = count_more n ∙ ap (λ b. count n + cond b 1 0) (h n (omega arith)) in
      omega arith

is_one : (n : ℕ) → IsTrue (n == 1) → n ≡ 1
is_one n h = grind (arith, nat_tests)

module _ (r : Fusion) (a : ℕ) (all : HoldsAtAll (all_singles r.labels) (has_dual r)) (in_range : a < r.labels) where
  one_dual : count_by (λ b. channel r a b 0) (below r.labels) ≡ 1
  one_dual = is_one _ (and_left (count_by (λ b. channel r a b 0) (below r.labels) == 1) _ (all a (singles_contain r.labels a in_range)))

  pub dual_is : (b : ℕ) → channel r a b 0 ≡ true → IsDual r a b
  dual_is b h = (h, λ c k. count_one (λ x. channel r a x 0) r.labels c b one_dual (second_below r a c 0 k) (second_below r a b 0 h) k h)

  pub dual_exists : ((b : ℕ) → b < r.labels → channel r a b 0 ≡ false) → ⊥
  dual_exists none = let e = count_none (λ x. channel r a x 0) r.labels none in let f = one_dual in omega arith
