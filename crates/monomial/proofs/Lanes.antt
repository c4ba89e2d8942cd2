-- The lanes of a word.
use Rattle.std.specs.Prelude.{◌≡◌, ◌≢◌, ◌<◌, ◌≤◌, ℕ, zero, suc, ◌+◌, ◌-◌, ◌*◌, ◌/◌, ◌%◌, ◌^◌, List, [], ◌∷◌, ◌++◌, length, take, slice_index_or, refl}
use mathlib.Core.Logic.{◌⊎◌, inl, inr}
use Rattle.std.proofs.Common.{arith, sym, ◌∙◌, ap, subst}
use Rattle.std.proofs.Math.Numerals.{add-one}
use Rattle.std.proofs.lemmas.Nat.{mod_below, shr-shr}
use Rattle.std.proofs.lemmas.Bool.{cases_lt}
use Rattle.std.proofs.Math.Seq.{take-suc}
use Rattle.std.specs.List.{AllByRecursion}
use Rattle.monomial.specs.Layouts.{lane, lanes, AreFalling, monomial_of}
use Rattle.monomial.specs.Monomials.{exponent}
use Rattle.monomial.proofs.Words.{more_cases, place_more, own_exponent, other_exponent, split, mod_small}

pub lane_below : (w n : ℕ) → lane w n < 65536
lane_below w n = mod_below (w / 2 ^ (16 * n)) 65536 (omega arith)

pub length-lanes : (n w : ℕ) → length (lanes n w) ≡ n
unfolding lanes
length-lanes zero w = refl
length-lanes (suc n) w = ap suc (length-lanes n w)

-- the highest lane first
pub lanes_first : (n w : ℕ) → 0 < n → lanes n w ≡ lane w (n - 1) ∷ lanes (n - 1) w
unfolding lanes
lanes_first zero w h = absurd (omega arith)
lanes_first (suc n) w h = ap (λ k. lane w k ∷ lanes k w) (less n)
  where
    less : (n : ℕ) → n ≡ suc n - 1
    less n = omega arith

all_lower : (v x : ℕ) (vs : List ℕ) → v < x → AllByRecursion (λ u. u < v) vs → AllByRecursion (λ u. u < x) vs
all_lower v x [] l h = tt
all_lower v x (u ∷ us) l h = let first : u < v = h.0 in (omega arith, all_lower v x us l h.1)

pub falling_one : (w : ℕ) → AreFalling (lanes 1 w)
unfolding lanes
falling_one w = (tt, tt)

pub falling_more : (w n : ℕ) → 0 < n → lane w (n - 1) < lane w n → AreFalling (lanes n w) → AreFalling (lanes (n + 1) w)
unfolding lanes
falling_more w zero h l f = absurd (omega arith)
falling_more w (suc n) h l f = subst (λ k. AreFalling (lanes k w)) (sym (add-one (suc n))) ((low, all_lower (lane w n) (lane w (suc n)) (lanes n w) low f.0), f)
  where
    same : (n : ℕ) → suc n - 1 ≡ n
    same n = omega arith

    low : lane w n < lane w (suc n)
    low = subst (λ k. lane w k < lane w (suc n)) (same n) l

in_range_lanes : (n w : ℕ) → AllByRecursion (λ v. v < 65536) (lanes n w)
unfolding lanes
in_range_lanes zero w = tt
in_range_lanes (suc n) w = (lane_below w n, in_range_lanes n w)

-- the powers in the lanes below a place
pub lanes_more : (n v w : ℕ) → 0 < n → 0 < lane w (n - 1) → monomial_of (lanes n v) w ≡ (lane v (n - 1), lane w (n - 1)) ∷ monomial_of (lanes (n - 1) v) w
lanes_more n v w h l = ap (λ vs. monomial_of vs w) (lanes_first n v h) ∙ each (more_cases (lane v (n - 1)) (lanes (n - 1) v) w)
  where
    place : lane w (length (lanes (n - 1) v)) ≡ lane w (n - 1)
    place = ap (lane w) (length-lanes (n - 1) v)

    each : ((0 < lane w (length (lanes (n - 1) v))) × (monomial_of (lane v (n - 1) ∷ lanes (n - 1) v) w ≡ (lane v (n - 1), lane w (length (lanes (n - 1) v))) ∷ monomial_of (lanes (n - 1) v) w)) ⊎ ((lane w (length (lanes (n - 1) v)) ≡ 0) × (monomial_of (lane v (n - 1) ∷ lanes (n - 1) v) w ≡ monomial_of (lanes (n - 1) v) w)) → monomial_of (lane v (n - 1) ∷ lanes (n - 1) v) w ≡ (lane v (n - 1), lane w (n - 1)) ∷ monomial_of (lanes (n - 1) v) w
    each (inl (k, e)) = e ∙ ap (λ x. (lane v (n - 1), x) ∷ monomial_of (lanes (n - 1) v) w) place
    each (inr (k, e)) = absurd (omega (arith, place, k))

pub lanes_skip : (n v w : ℕ) → 0 < n → lane w (n - 1) ≤ 0 → monomial_of (lanes n v) w ≡ monomial_of (lanes (n - 1) v) w
lanes_skip n v w h l = ap (λ vs. monomial_of vs w) (lanes_first n v h) ∙ each (more_cases (lane v (n - 1)) (lanes (n - 1) v) w)
  where
    place : lane w (length (lanes (n - 1) v)) ≡ lane w (n - 1)
    place = ap (lane w) (length-lanes (n - 1) v)

    each : ((0 < lane w (length (lanes (n - 1) v))) × (monomial_of (lane v (n - 1) ∷ lanes (n - 1) v) w ≡ (lane v (n - 1), lane w (length (lanes (n - 1) v))) ∷ monomial_of (lanes (n - 1) v) w)) ⊎ ((lane w (length (lanes (n - 1) v)) ≡ 0) × (monomial_of (lane v (n - 1) ∷ lanes (n - 1) v) w ≡ monomial_of (lanes (n - 1) v) w)) → monomial_of (lane v (n - 1) ∷ lanes (n - 1) v) w ≡ monomial_of (lanes (n - 1) v) w
    each (inl (k, e)) = absurd (omega (arith, place, k))
    each (inr (k, e)) = e

pub lanes_end : (v : ℕ) → lanes 0 v ≡ []
unfolding lanes
lanes_end v = refl

pub lanes_none : (v w : ℕ) → monomial_of (lanes 0 v) w ≡ []
unfolding lanes
lanes_none v w = refl

-- a lane added below
shift_place : (n : ℕ) → 16 * suc n ≡ 16 + 16 * n
shift_place n = omega arith

lowest : (w v : ℕ) → v < 65536 → lane (w * 65536 + v) 0 ≡ v
lowest w v h = omega arith

higher : (w v n : ℕ) → v < 65536 → lane (w * 65536 + v) (suc n) ≡ lane w n
higher w v n h = ap (λ k. (w * 65536 + v) / 2 ^ k % 65536) (shift_place n) ∙ ap (λ k. k % 65536) (sym (shr-shr (w * 65536 + v) 16 (16 * n))) ∙ ap (λ k. k / 2 ^ (16 * n) % 65536) (quotient w v h)
  where
    quotient : (w v : ℕ) → v < 65536 → (w * 65536 + v) / 65536 ≡ w
    quotient w v h = omega arith

pub lanes_below : (n w v : ℕ) → v < 65536 → lanes (suc n) (w * 65536 + v) ≡ lanes n w ++ v ∷ []
unfolding lanes
lanes_below zero w v h = ap (λ k. k ∷ []) (lowest w v h)
lanes_below (suc n) w v h = ap (λ k. k ∷ lanes (suc n) (w * 65536 + v)) (higher w v n h) ∙ ap (λ ks. lane w n ∷ ks) (lanes_below n w v h)

-- the word of the first variables
pub record Packing (vs : List ℕ) (i w : ℕ) : Type 0 where
  pub made : lanes i w ≡ take i vs
  pub in_range : AllByRecursion (λ v. v < 65536) (take i vs)
  pub bound : w < 2 ^ (16 * i)
  pub eight : length vs ≡ 8

pub Packing-start : (vs : List ℕ) → length vs ≡ 8 → Packing vs 0 0
unfolding lanes
Packing-start vs e = record { made = refl; in_range = tt; bound = omega arith; eight = e }

next_bound : (w v i : ℕ) → v < 65536 → w < 2 ^ (16 * i) → w * 65536 + v < 2 ^ (16 * suc i)
next_bound w v i h b = subst (λ p. w * 65536 + v < p) (sym (place_more i)) (step w v (2 ^ (16 * i)) h b)
  where
    step : (w v p : ℕ) → v < 65536 → w < p → w * 65536 + v < 65536 * p
    step w v p h b = omega arith

pub Packing-more : (vs : List ℕ) (i w v : ℕ) → i < length vs → v ≡ slice_index_or vs i v → v < 65536 → Packing vs i w → Packing vs (i + 1) (w * 65536 + v)
Packing-more vs i w v l e h g = subst (λ k. Packing vs k (w * 65536 + v)) (sym (add-one i)) (record {
  made = lanes_below i w v h ∙ ap (λ ks. ks ++ v ∷ []) g.made ∙ sym taken;
  in_range = subst (AllByRecursion (λ v. v < 65536)) (sym taken) (all_end (take i vs) v g.in_range h);
  bound = next_bound w v i h g.bound;
  eight = g.eight;
})
  where
    taken : take (suc i) vs ≡ take i vs ++ v ∷ []
    taken = take-suc vs i v l ∙ ap (λ k. take i vs ++ k ∷ []) (sym e)

    all_end : (xs : List ℕ) (x : ℕ) → AllByRecursion (λ v. v < 65536) xs → x < 65536 → AllByRecursion (λ v. v < 65536) (xs ++ x ∷ [])
    all_end [] x a h = (h, tt)
    all_end (y ∷ ys) x a h = (a.0, all_end ys x a.1 h)

-- lanes that fall, two next to each other
pub lanes_fall : (w m n : ℕ) → 0 < n → n < m → AreFalling (lanes m w) → lane w (n - 1) < lane w n
unfolding lanes
lanes_fall w zero n h l f = absurd (omega arith)
lanes_fall w (suc zero) n h l f = absurd (omega arith)
lanes_fall w (suc (suc m)) n h l f = each (λ k. lanes_fall w (suc m) n h k f.1) (cases_lt n (suc m))
  where
    each : (n < suc m → lane w (n - 1) < lane w n) → (n < suc m) ⊎ (suc m ≤ n) → lane w (n - 1) < lane w n
    each lower (inl k) = lower k
    each lower (inr k) =
        let top : suc m ≡ n = omega arith in
        let next : m ≡ n - 1 = omega arith in
        subst (λ j. lane w j < lane w n) next (subst (λ j. lane w m < lane w j) top f.0.0)

-- the exponent of the highest lane's variable, and of another
opened : (n v : ℕ) → 0 < n → AreFalling (lanes n v) → AreFalling (lane v (n - 1) ∷ lanes (n - 1) v)
opened n v h f = subst AreFalling (lanes_first n v h) f

pub falling_less : (n v : ℕ) → 0 < n → AreFalling (lanes n v) → AreFalling (lanes (n - 1) v)
falling_less n v h f = (opened n v h f).1

pub exponent_own : (n v w : ℕ) → 0 < n → AreFalling (lanes n v) → exponent (monomial_of (lanes n v) w) (lane v (n - 1)) ≡ lane w (n - 1)
exponent_own n v w h f = ap (λ vs. exponent (monomial_of vs w) (lane v (n - 1))) (lanes_first n v h) ∙ own_exponent (lane v (n - 1)) (lanes (n - 1) v) w (opened n v h f).0 ∙ ap (lane w) (length-lanes (n - 1) v)

pub exponent_other : (n v w u : ℕ) → 0 < n → lane v (n - 1) ≢ u → exponent (monomial_of (lanes n v) w) u ≡ exponent (monomial_of (lanes (n - 1) v) w) u
exponent_other n v w u h e = ap (λ vs. exponent (monomial_of vs w) u) (lanes_first n v h) ∙ other_exponent (lane v (n - 1)) (lanes (n - 1) v) w u e

-- words are told apart by their lanes
same_lanes : (n a b : ℕ) → lanes n a ≡ lanes n b → a % 2 ^ (16 * n) ≡ b % 2 ^ (16 * n)
unfolding lanes
same_lanes zero a b e = one a ∙ sym (one b)
  where
    one : (w : ℕ) → w % 1 ≡ 0
    one w = omega (arith, mod_below w 1 (omega arith))
same_lanes (suc n) a b e =
    let first : lane a n ≡ lane b n = cc e in
    let others : lanes n a ≡ lanes n b = cc e in
    split a n ∙ ap (λ k. k * 2 ^ (16 * n) + a % 2 ^ (16 * n)) first ∙ ap (λ k. lane b n * 2 ^ (16 * n) + k) (same_lanes n a b others) ∙ sym (split b n)

pub same_word : (n a b : ℕ) → a < 2 ^ (16 * n) → b < 2 ^ (16 * n) → lanes n a ≡ lanes n b → a ≡ b
same_word n a b l k e = sym (mod_small a (2 ^ (16 * n)) l) ∙ same_lanes n a b e ∙ mod_small b (2 ^ (16 * n)) k
