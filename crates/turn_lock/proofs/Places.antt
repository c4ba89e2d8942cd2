-- What a map of own entries has.
use Rattle.std.proofs.Common.{rules, ◌≡◌, ◌≢◌, ◌⊎◌, ℕ, suc, ◌+◌, List, [], ◌∷◌, slice_get, Some, ap, ◌∙◌, inl, inr, ⊎_elim, arith}
use native.Mathlib.Decide.{ℕ_discrete}
use mathlib.Core.Logic.{dite}
use Rattle.std.specs.FinMap.{get, insert, empty, entries, gets, get-entries, find}
use Rattle.std.specs.Ordering.{nat_cmp}
use Rattle.turn_lock.specs.Turn.{Places, with_entries, with_pairs, both_own}

module _ {E : Type 0} where
  pub get_insert : (m : Places E) (k : ℕ) (x : E) (q : ℕ) (e : E) → get (insert m k x) q ≡ Some e → ((q ≡ k) × (x ≡ e)) ⊎ (get m q ≡ Some e)
  get_insert m k x q e h = dite (ℕ_discrete q k) (λ same. inl (same, grind (gets, rules))) (λ other. inr (grind (gets, rules)))

  pub get_with_entries : (m : Places E) (n : ℕ) (es : List E) (q : ℕ) (e : E) → get (with_entries m n es) q ≡ Some e → (get m q ≡ Some e) ⊎ ((k : ℕ) × (q ≡ n + k) × (slice_get es k ≡ Some e))
  get_with_entries m n [] q e h = inl h
  get_with_entries m n (x ∷ xs) q e h = ⊎_elim (λ (t : (q ≡ n) × (x ≡ e)). inr (0, (t.0 ∙ omega arith), ap (λ (y : E). Some y) t.1))
      (λ h'. ⊎_elim (λ g. inl g) (λ (t : (k : ℕ) × (q ≡ n + 1 + k) × (slice_get xs k ≡ Some e)). let p = t.1 in inr (suc t.0, omega arith, t.2)) (get_with_entries m (n + 1) xs q e h'))
      (get_insert (with_entries m (n + 1) xs) n x q e h)

  pub none_own : (n : ℕ) (e : E) → get (empty {R = nat_cmp}) n ≡ Some e → ⊥
  none_own n e h = grind (gets, rules)

  pub get_with_pairs : (m : Places E) (es : List (ℕ × E)) (q : ℕ) (e : E) → get (with_pairs m es) q ≡ Some e → (get m q ≡ Some e) ⊎ (find nat_cmp q es ≡ Some e)
  get_with_pairs m [] q e h = inl h
  get_with_pairs m (x ∷ xs) q e h = ⊎_elim (λ (t : (q ≡ x.0) × (x.1 ≡ e)). inr (found q x.0 x.1 e xs t.0 t.1))
      (λ h'. ⊎_elim (λ g. inl g) (λ g. dite (ℕ_discrete q x.0) (λ same. found_or m xs q x.0 x.1 e h same) (λ other. inr (missed q x.0 x.1 e xs other g))) (get_with_pairs m xs q e h'))
      (get_insert (with_pairs m xs) x.0 x.1 q e h) where
        found : (q k : ℕ) (y e : E) (xs : List (ℕ × E)) → q ≡ k → y ≡ e → find nat_cmp q ((k, y) ∷ xs) ≡ Some e
        found q k y e xs s t = grind (gets, rules)

        missed : (q k : ℕ) (y e : E) (xs : List (ℕ × E)) → q ≢ k → find nat_cmp q xs ≡ Some e → find nat_cmp q ((k, y) ∷ xs) ≡ Some e
        missed q k y e xs n t = grind (gets, rules)

        found_or : (m : Places E) (xs : List (ℕ × E)) (q k : ℕ) (y e : E) → get (insert (with_pairs m xs) k y) q ≡ Some e → q ≡ k → (get m q ≡ Some e) ⊎ (find nat_cmp q ((k, y) ∷ xs) ≡ Some e)
        found_or m xs q k y e h s = let z : y ≡ e = grind (gets, rules) in inr (found q k y e xs s z)

  pub get_both_own : (m n : Places E) (q : ℕ) (e : E) → get (both_own m n) q ≡ Some e → (get m q ≡ Some e) ⊎ (get n q ≡ Some e)
  get_both_own m n q e h = ⊎_elim (λ g. inl g) (λ g. inr (get-entries n q ∙ g)) (get_with_pairs m (entries n) q e h)
