-- The comparison of two lists, one of which has ended.
use Rattle.std.specs.Prelude.{◌≡◌, ℕ, ◌+◌, ◌<◌, ◌≤◌, List, [], ◌∷◌, drop, length, refl}
use Rattle.std.proofs.Common.{arith, ◌∙◌, ap}
use Rattle.std.proofs.Math.Seq.{drop-length}
use Rattle.std.proofs.lemmas.List.{length-drop}
use Rattle.std.specs.declared.cmp.Ordering.{Ordering}
use Rattle.std.specs.declared.cmp.Ordering.TheVariants.{Less, Equal, Greater}
use Rattle.std.specs.Cmp.{nat_cmp_is}
use Rattle.std.specs.Cmp.Lexicographic.{slice_cmp}
use Rattle.std.specs.Ordering.{nat_cmp, MatchOrdering}
use Rattle.std.proofs.lemmas.Cmp.{ranked}

shifted : (a b c d k : ℕ) → c ≡ a + k → d ≡ b + k → nat_cmp a b ≡ nat_cmp c d
shifted a b c d k e f = nat_cmp_is c d (nat_cmp a b) (each (nat_cmp a b) (ranked a b (nat_cmp a b) refl))
  where
    each : (o : Ordering) → MatchOrdering o (a < b) (a ≡ b) (b < a) → MatchOrdering o (c < d) (c ≡ d) (d < c)
    each Less h = omega arith
    each Equal h = omega arith
    each Greater h = omega arith

module _ {X : Type 0} (R : X → X → Ordering) where
  drop_end : (xs : List X) (k : ℕ) → k ≡ length xs → drop k xs ≡ []
  drop_end xs k e = ap (λ n. drop n xs) e ∙ drop-length xs

  none_first : (ys : List X) → slice_cmp R [] ys ≡ nat_cmp 0 (length ys)
  none_first [] = refl
  none_first (y ∷ ys) = nat_cmp_is 0 (length (y ∷ ys)) Less (omega arith)

  none_second : (xs : List X) → slice_cmp R xs [] ≡ nat_cmp (length xs) 0
  none_second [] = refl
  none_second (x ∷ xs) = nat_cmp_is (length (x ∷ xs)) 0 Greater (omega arith)

  -- where one of two lists has ended, their lengths decide
  pub ended_first : (xs ys : List X) (k : ℕ) → k ≡ length xs → k ≤ length ys → slice_cmp R (drop k xs) (drop k ys) ≡ nat_cmp (length xs) (length ys)
  ended_first xs ys k e l =
      ap (λ zs. slice_cmp R zs (drop k ys)) (drop_end xs k e) ∙ none_first (drop k ys) ∙ shifted 0 (length (drop k ys)) (length xs) (length ys) k (omega arith) (omega (arith, length-drop k ys))

  pub ended_second : (xs ys : List X) (k : ℕ) → k ≤ length xs → k ≡ length ys → slice_cmp R (drop k xs) (drop k ys) ≡ nat_cmp (length xs) (length ys)
  ended_second xs ys k l e =
      ap (λ zs. slice_cmp R (drop k xs) zs) (drop_end ys k e) ∙ none_second (drop k xs) ∙ shifted (length (drop k xs)) 0 (length xs) (length ys) k (omega (arith, length-drop k xs)) (omega arith)
