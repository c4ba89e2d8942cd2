-- Words of monomials: they add up where monomials are multiplied, keep their order, and give the monomials back.
use Rattle.std.specs.Prelude.{◌≡◌, ◌≢◌, ◌<◌, ◌≤◌, ℕ, zero, suc, ◌+◌, ◌*◌, ◌/◌, ◌%◌, ◌^◌, true, false, if◌then◌else◌, nat_lt, ◌==◌, List, [], ◌∷◌, length, refl}
use mathlib.Core.Logic.{◌⊎◌, inl, inr}
use Rattle.std.proofs.Common.{arith, sym, ◌∙◌, ap, subst}
use Rattle.std.proofs.lemmas.Bool.{cases_lt, cases_order}
use Rattle.std.proofs.lemmas.Bool.Decides.{nat_tests, eqb_tells}
use Rattle.std.proofs.lemmas.Nat.{pow-add, pow_pos, mod-pow-add, mod_below, mul-le, mod-mul-add, same_from_place}
use Rattle.std.proofs.lemmas.List.Elements.{Contains-append_left, Contains-append_right, Contains-append_cases}
use Rattle.std.specs.List.{AllByRecursion, Contains}
use Rattle.std.specs.declared.cmp.Ordering.{Ordering}
use Rattle.std.specs.declared.cmp.Ordering.TheVariants.{Less, Equal, Greater}
use Rattle.std.specs.Ordering.{nat_cmp, MatchOrdering, ordering_reverse}
use Rattle.std.specs.Cmp.{tied_itself}
use Rattle.std.proofs.lemmas.Cmp.{ranked}
use Rattle.monomial.proofs.Total.{monomial_cmp-IsTotalOrder}
use Rattle.monomial.specs.Monomials.{exponent, monomial_times, monomial_cmp, IsBelow, IsLower, IsPowers, IsMonomial}
use Rattle.monomial.proofs.Exponents.{exponent_here, exponent_there, exponent_above, exponent-times, same_from_exponents}
use Rattle.monomial.proofs.Lower.{cmp-from_IsLower}
use Rattle.monomial.specs.Layouts.{AreFalling, IsLayout, word_of, lane, monomial_of, FitsLayout, IsWordIn}

-- members of a list
pub Contains-head : (v : ℕ) (vs : List ℕ) → Contains (v ∷ vs) v
Contains-head v vs = Contains-append_left (v ∷ []) vs v (0, omega arith, refl)

pub Contains-tail : (v u : ℕ) (vs : List ℕ) → Contains vs u → Contains (v ∷ vs) u
Contains-tail v u vs h = Contains-append_right (v ∷ []) vs u h

pub Contains-cases : (v u : ℕ) (vs : List ℕ) → Contains (v ∷ vs) u → (v ≡ u) ⊎ Contains vs u
Contains-cases v u vs h = each (Contains-append_cases (v ∷ []) vs u h)
  where
    one : Contains (v ∷ []) u → v ≡ u
    one (zero, l, e) = e
    one (suc k, l, e) = absurd (omega (arith, l))

    each : Contains (v ∷ []) u ⊎ Contains vs u → (v ≡ u) ⊎ Contains vs u
    each (inl h) = inl (one h)
    each (inr h) = inr h

pub Contains-none : (u : ℕ) → Contains [] u → ⊥
Contains-none u h = absurd (omega (arith, h.1))

higher_place : (n : ℕ) → 2 ^ (16 * suc n) ≡ 2 ^ (16 + 16 * n)
higher_place n = ap (λ k. 2 ^ k) (more n)
  where
    more : (n : ℕ) → 16 * suc n ≡ 16 + 16 * n
    more n = omega arith

pub place_more : (n : ℕ) → 2 ^ (16 * suc n) ≡ 65536 * 2 ^ (16 * n)
place_more n = higher_place n ∙ pow-add 2 16 (16 * n)

-- words of small exponents

pub word_below : (vs : List ℕ) (m : List (ℕ × ℕ)) → ((v : ℕ) → exponent m v ≤ 65535) → word_of vs m < 2 ^ (16 * length vs)
word_below [] m h = omega arith
word_below (v ∷ vs) m h =
    let rest = word_below vs m h in
    let most : exponent m v * 2 ^ (16 * length vs) ≤ 65535 * 2 ^ (16 * length vs) = mul-le (exponent m v) (2 ^ (16 * length vs)) 65535 (2 ^ (16 * length vs)) (h v) (omega arith) in
    subst (λ n. exponent m v * 2 ^ (16 * length vs) + word_of vs m < n) (sym (place_more (length vs))) (step _ _ _ most rest)
  where
    step : (t r p : ℕ) → t ≤ 65535 * p → r < p → t + r < 65536 * p
    step t r p h l = omega arith

pub word_half : (vs : List ℕ) (m : List (ℕ × ℕ)) → ((v : ℕ) → exponent m v ≤ 32767) → word_of vs m + word_of vs m < 2 ^ (16 * length vs)
word_half [] m h = omega arith
word_half (v ∷ vs) m h =
    let rest = word_half vs m h in
    let most : exponent m v * 2 ^ (16 * length vs) ≤ 32767 * 2 ^ (16 * length vs) = mul-le (exponent m v) (2 ^ (16 * length vs)) 32767 (2 ^ (16 * length vs)) (h v) (omega arith) in
    subst (λ n. (exponent m v * 2 ^ (16 * length vs) + word_of vs m) + (exponent m v * 2 ^ (16 * length vs) + word_of vs m) < n) (sym (place_more (length vs))) (step _ _ _ most rest)
  where
    step : (t r p : ℕ) → t ≤ 32767 * p → r + r < p → (t + r) + (t + r) < 65536 * p
    step t r p h l = omega arith

-- the word of a product is the sum of the words
pub word_of-times : (vs : List ℕ) (m n : List (ℕ × ℕ)) → IsPowers m → IsPowers n → word_of vs (monomial_times m n) ≡ word_of vs m + word_of vs n
word_of-times [] m n h i = refl
word_of-times (v ∷ vs) m n h i =
    ap (λ e. e * 2 ^ (16 * length vs) + word_of vs (monomial_times m n)) (exponent-times m n v h i) ∙ step (exponent m v) (exponent n v) (2 ^ (16 * length vs)) _ _ _ (word_of-times vs m n h i)
  where
    step : (a b p w x y : ℕ) → w ≡ x + y → (a + b) * p + w ≡ (a * p + x) + (b * p + y)
    step a b p w x y e = omega arith

-- the powers of the monomial of a word
pub more_cases : (v : ℕ) (vs : List ℕ) (w : ℕ) → ((0 < lane w (length vs)) × (monomial_of (v ∷ vs) w ≡ (v, lane w (length vs)) ∷ monomial_of vs w)) ⊎ ((lane w (length vs) ≡ 0) × (monomial_of (v ∷ vs) w ≡ monomial_of vs w))
more_cases v vs w =
    elim (nat_lt 0 (lane w (length vs))) as (λ b. nat_lt 0 (lane w (length vs)) ≡ b → ((0 < lane w (length vs)) × ((if b then (v, lane w (length vs)) ∷ monomial_of vs w else monomial_of vs w) ≡ (v, lane w (length vs)) ∷ monomial_of vs w)) ⊎ ((lane w (length vs) ≡ 0) × ((if b then (v, lane w (length vs)) ∷ monomial_of vs w else monomial_of vs w) ≡ monomial_of vs w))) [
      | true ↦ λ e. inl (positive (lane w (length vs)) e, refl)
      | false ↦ λ e. inr (none (lane w (length vs)) e, refl)
    ] refl
  where
    positive : (n : ℕ) → nat_lt 0 n ≡ true → 0 < n
    positive n e = grind (arith, nat_tests)

    none : (n : ℕ) → nat_lt 0 n ≡ false → n ≡ 0
    none n e = grind (arith, nat_tests)

pub IsBelow-monomial_of : (u : ℕ) (vs : List ℕ) (w : ℕ) → AllByRecursion (λ v. v < u) vs → IsBelow u (monomial_of vs w)
IsBelow-monomial_of u [] w h = tt
IsBelow-monomial_of u (v ∷ vs) w h = each (IsBelow-monomial_of u vs w h.1) (more_cases v vs w)
  where
    each : IsBelow u (monomial_of vs w) → ((0 < lane w (length vs)) × (monomial_of (v ∷ vs) w ≡ (v, lane w (length vs)) ∷ monomial_of vs w)) ⊎ ((lane w (length vs) ≡ 0) × (monomial_of (v ∷ vs) w ≡ monomial_of vs w)) → IsBelow u (monomial_of (v ∷ vs) w)
    each rest (inl (l, e)) = subst (IsBelow u) (sym e) (h.0, rest)
    each rest (inr (l, e)) = subst (IsBelow u) (sym e) rest

pub IsPowers-monomial_of : (vs : List ℕ) (w : ℕ) → AreFalling vs → IsPowers (monomial_of vs w)
IsPowers-monomial_of [] w h = tt
IsPowers-monomial_of (v ∷ vs) w h = each (IsPowers-monomial_of vs w h.1) (more_cases v vs w)
  where
    each : IsPowers (monomial_of vs w) → ((0 < lane w (length vs)) × (monomial_of (v ∷ vs) w ≡ (v, lane w (length vs)) ∷ monomial_of vs w)) ⊎ ((lane w (length vs) ≡ 0) × (monomial_of (v ∷ vs) w ≡ monomial_of vs w)) → IsPowers (monomial_of (v ∷ vs) w)
    each rest (inl (l, e)) = subst IsPowers (sym e) (l, IsBelow-monomial_of v vs w h.0, rest)
    each rest (inr (l, e)) = subst IsPowers (sym e) rest

in_range-monomial_of : (vs : List ℕ) (w : ℕ) → AllByRecursion (λ v. v < 65536) vs → AllByRecursion (λ (p : ℕ × ℕ). (p.0 < 2 ^ 32) × (p.1 ≤ 65535)) (monomial_of vs w)
in_range-monomial_of [] w h = tt
in_range-monomial_of (v ∷ vs) w h = each (in_range-monomial_of vs w h.1) (more_cases v vs w)
  where
    small : lane w (length vs) ≤ 65535
    small = omega (arith, mod_below (w / 2 ^ (16 * length vs)) 65536 (omega arith))

    wide : v < 65536 → v < 2 ^ 32
    wide l = omega arith

    each : AllByRecursion (λ (p : ℕ × ℕ). (p.0 < 2 ^ 32) × (p.1 ≤ 65535)) (monomial_of vs w) → ((0 < lane w (length vs)) × (monomial_of (v ∷ vs) w ≡ (v, lane w (length vs)) ∷ monomial_of vs w)) ⊎ ((lane w (length vs) ≡ 0) × (monomial_of (v ∷ vs) w ≡ monomial_of vs w)) → AllByRecursion (λ (p : ℕ × ℕ). (p.0 < 2 ^ 32) × (p.1 ≤ 65535)) (monomial_of (v ∷ vs) w)
    each rest (inl (l, e)) = subst (AllByRecursion (λ (p : ℕ × ℕ). (p.0 < 2 ^ 32) × (p.1 ≤ 65535))) (sym e) ((wide h.0, small), rest)
    each rest (inr (l, e)) = subst (AllByRecursion (λ (p : ℕ × ℕ). (p.0 < 2 ^ 32) × (p.1 ≤ 65535))) (sym e) rest

pub IsMonomial-monomial_of : (vs : List ℕ) (w : ℕ) → IsLayout vs → IsMonomial (monomial_of vs w)
IsMonomial-monomial_of vs w h = record { powers = IsPowers-monomial_of vs w h.falling; in_range = in_range-monomial_of vs w h.in_range }

-- its exponents
pub own_exponent : (v : ℕ) (vs : List ℕ) (w : ℕ) → AllByRecursion (λ u. u < v) vs → exponent (monomial_of (v ∷ vs) w) v ≡ lane w (length vs)
own_exponent v vs w h = each (more_cases v vs w)
  where
    each : ((0 < lane w (length vs)) × (monomial_of (v ∷ vs) w ≡ (v, lane w (length vs)) ∷ monomial_of vs w)) ⊎ ((lane w (length vs) ≡ 0) × (monomial_of (v ∷ vs) w ≡ monomial_of vs w)) → exponent (monomial_of (v ∷ vs) w) v ≡ lane w (length vs)
    each (inl (l, e)) = ap (λ ps. exponent ps v) e ∙ exponent_here (v, lane w (length vs)) (monomial_of vs w) v refl
    each (inr (l, e)) = ap (λ ps. exponent ps v) e ∙ exponent_above v (monomial_of vs w) v (IsBelow-monomial_of v vs w h) (omega arith) ∙ sym l

pub other_exponent : (v : ℕ) (vs : List ℕ) (w u : ℕ) → v ≢ u → exponent (monomial_of (v ∷ vs) w) u ≡ exponent (monomial_of vs w) u
other_exponent v vs w u n = each (more_cases v vs w)
  where
    each : ((0 < lane w (length vs)) × (monomial_of (v ∷ vs) w ≡ (v, lane w (length vs)) ∷ monomial_of vs w)) ⊎ ((lane w (length vs) ≡ 0) × (monomial_of (v ∷ vs) w ≡ monomial_of vs w)) → exponent (monomial_of (v ∷ vs) w) u ≡ exponent (monomial_of vs w) u
    each (inl (l, e)) = ap (λ ps. exponent ps u) e ∙ exponent_there (v, lane w (length vs)) (monomial_of vs w) u n
    each (inr (l, e)) = ap (λ ps. exponent ps u) e

-- the highest exponent and the rest of a word
pub split : (w n : ℕ) → w % 2 ^ (16 * suc n) ≡ lane w n * 2 ^ (16 * n) + w % 2 ^ (16 * n)
split w n = ap (λ p. w % p) (higher_place n) ∙ mod-pow-add w 16 (16 * n)

pub mod_small : (a b : ℕ) → a < b → a % b ≡ a
mod_small a b l = ap (λ n. n % b) (plain a b) ∙ mod-mul-add 0 b a l
  where
    plain : (a b : ℕ) → a ≡ 0 * b + a
    plain a b = omega arith

rest_below : (w n : ℕ) → w % 2 ^ (16 * n) < 2 ^ (16 * n)
rest_below w n = mod_below w (2 ^ (16 * n)) (pow_pos (16 * n))

known_exponents : (vs : List ℕ) (m : List (ℕ × ℕ)) (w : ℕ) → AreFalling vs → ((v : ℕ) → exponent m v ≤ 65535) → w % 2 ^ (16 * length vs) ≡ word_of vs m → (u : ℕ) → Contains vs u → exponent (monomial_of vs w) u ≡ exponent m u
known_exponents [] m w f h e u c = absurd (Contains-none u c)
known_exponents (v ∷ vs) m w f h e u c =
    let parts = same_from_place (lane w (length vs)) (w % 2 ^ (16 * length vs)) (exponent m v) (word_of vs m) (2 ^ (16 * length vs)) (rest_below w (length vs)) (word_below vs m h) (sym (split w (length vs)) ∙ e) in
    each parts.0 (known_exponents vs m w f.1 h parts.1 u) (eqb_tells v u) (Contains-cases v u vs c)
  where
    each : lane w (length vs) ≡ exponent m v → (Contains vs u → exponent (monomial_of vs w) u ≡ exponent m u) → ((v == u ≡ true) × (v ≡ u)) ⊎ ((v == u ≡ false) × (v ≢ u)) → (v ≡ u) ⊎ Contains vs u → exponent (monomial_of (v ∷ vs) w) u ≡ exponent m u
    each d rest (inl (t, s)) k = ap (exponent (monomial_of (v ∷ vs) w)) (sym s) ∙ own_exponent v vs w f.0 ∙ d ∙ ap (exponent m) s
    each d rest (inr (t, n)) (inl s) = absurd (n s)
    each d rest (inr (t, n)) (inr k) = other_exponent v vs w u n ∙ rest k

is_known : (vs : List ℕ) (w u : ℕ) → AreFalling vs → 0 < exponent (monomial_of vs w) u → Contains vs u
is_known [] w u f l = absurd (omega arith)
is_known (v ∷ vs) w u f l = each (is_known vs w u f.1) (eqb_tells v u)
  where
    each : (0 < exponent (monomial_of vs w) u → Contains vs u) → ((v == u ≡ true) × (v ≡ u)) ⊎ ((v == u ≡ false) × (v ≢ u)) → Contains (v ∷ vs) u
    each rest (inl (t, s)) = subst (Contains (v ∷ vs)) s (Contains-head v vs)
    each rest (inr (t, n)) = Contains-tail v u vs (rest (subst (λ n. 0 < n) (other_exponent v vs w u n) l))

-- a monomial is that of its word
pub monomial_of-word : (vs : List ℕ) (m : List (ℕ × ℕ)) (w : ℕ) → AreFalling vs → IsPowers m → ((v : ℕ) → exponent m v ≤ 65535) → ((v : ℕ) → 0 < exponent m v → Contains vs v) → w ≡ word_of vs m → monomial_of vs w ≡ m
monomial_of-word vs m w f h small known e =
    same_from_exponents _ m (IsPowers-monomial_of vs w f) h (λ u. each u (cases_lt 0 (exponent m u)) (cases_lt 0 (exponent (monomial_of vs w) u)))
  where
    whole : w % 2 ^ (16 * length vs) ≡ word_of vs m
    whole = let low = word_below vs m small in let low_too : w < 2 ^ (16 * length vs) = omega (arith, low, e) in mod_small _ _ low_too ∙ e

    each : (u : ℕ) → (0 < exponent m u) ⊎ (exponent m u ≤ 0) → (0 < exponent (monomial_of vs w) u) ⊎ (exponent (monomial_of vs w) u ≤ 0) → exponent (monomial_of vs w) u ≡ exponent m u
    each u (inl l) k = known_exponents vs m w f small whole u (known u l)
    each u (inr l) (inl k) = known_exponents vs m w f small whole u (is_known vs w u f k)
    each u (inr l) (inr k) = omega arith

-- the order of words is that of their monomials
lower_words : (vs : List ℕ) (a b : ℕ) → AreFalling vs → a % 2 ^ (16 * length vs) < b % 2 ^ (16 * length vs) → IsLower (monomial_of vs a) (monomial_of vs b)
lower_words [] a b f l = absurd (omega arith)
lower_words (v ∷ vs) a b f l =
    each (cases_order (lane a (length vs)) (lane b (length vs))) (lower_words vs a b f.1)
  where
    first : exponent (monomial_of (v ∷ vs) a) v ≡ lane a (length vs)
    first = own_exponent v vs a f.0

    second : exponent (monomial_of (v ∷ vs) b) v ≡ lane b (length vs)
    second = own_exponent v vs b f.0

    above : (w u : ℕ) → v < u → exponent (monomial_of (v ∷ vs) w) u ≡ 0
    above w u k = other_exponent v vs w u (λ e. absurd (omega arith)) ∙ exponent_above v (monomial_of vs w) u (IsBelow-monomial_of v vs w f.0) (omega arith)

    less : lane a (length vs) * 2 ^ (16 * length vs) + a % 2 ^ (16 * length vs) < lane b (length vs) * 2 ^ (16 * length vs) + b % 2 ^ (16 * length vs)
    less = omega (arith, l, split a (length vs), split b (length vs))

    tail : lane a (length vs) ≡ lane b (length vs) → IsLower (monomial_of vs a) (monomial_of vs b) → IsLower (monomial_of (v ∷ vs) a) (monomial_of (v ∷ vs) b)
    tail e r =
        let low : r.at < v = low_place (exponent (monomial_of vs a) r.at) r.smaller (exponent_above v (monomial_of vs b) r.at (IsBelow-monomial_of v vs b f.0)) in
        let away : v ≢ r.at = λ g. absurd (omega arith) in
        record {
          at = r.at;
          smaller = omega (arith, r.smaller, other_exponent v vs a r.at away, other_exponent v vs b r.at away);
          same = λ u k. at_each u k (eqb_tells v u);
        }
      where
        low_place : (n : ℕ) → n < exponent (monomial_of vs b) r.at → (v ≤ r.at → exponent (monomial_of vs b) r.at ≡ 0) → r.at < v
        low_place n l g = each (cases_lt r.at v)
          where
            each : (r.at < v) ⊎ (v ≤ r.at) → r.at < v
            each (inl k) = k
            each (inr k) = absurd (omega (arith, g k))

        at_each : (u : ℕ) → r.at < u → ((v == u ≡ true) × (v ≡ u)) ⊎ ((v == u ≡ false) × (v ≢ u)) → exponent (monomial_of (v ∷ vs) a) u ≡ exponent (monomial_of (v ∷ vs) b) u
        at_each u k (inl (t, s)) = ap (exponent (monomial_of (v ∷ vs) a)) (sym s) ∙ first ∙ e ∙ sym second ∙ ap (exponent (monomial_of (v ∷ vs) b)) s
        at_each u k (inr (t, n)) = other_exponent v vs a u n ∙ r.same u k ∙ sym (other_exponent v vs b u n)

    each : (lane a (length vs) ≡ lane b (length vs)) ⊎ ((lane a (length vs) < lane b (length vs)) ⊎ (lane b (length vs) < lane a (length vs))) → (a % 2 ^ (16 * length vs) < b % 2 ^ (16 * length vs) → IsLower (monomial_of vs a) (monomial_of vs b)) → IsLower (monomial_of (v ∷ vs) a) (monomial_of (v ∷ vs) b)
    each (inl e) rest = tail e (rest (tails (lane a (length vs)) (lane b (length vs)) _ _ _ e less))
      where
        tails : (c d p x y : ℕ) → c ≡ d → c * p + x < d * p + y → x < y
        tails c d p x y e l = let same : c * p ≡ d * p = ap (λ n. n * p) e in omega arith
    each (inr (inl k)) rest = record {
      at = v;
      smaller = omega (arith, first, second, k);
      same = λ u k. above a u k ∙ sym (above b u k);
    }
    each (inr (inr k)) rest = absurd (never (lane a (length vs)) (lane b (length vs)) _ _ _ k less (rest_below b (length vs)))
      where
        never : (c d p x y : ℕ) → d < c → c * p + x < d * p + y → y < p → ⊥
        never c d p x y k l h = let most : suc d * p ≤ c * p = mul-le (suc d) p c p k (omega arith) in absurd (omega arith)

pub lower_monomial : (vs : List ℕ) (a b : ℕ) → AreFalling vs → b < 2 ^ (16 * length vs) → a < b → monomial_cmp (monomial_of vs a) (monomial_of vs b) ≡ Less
lower_monomial vs a b f h l =
    cmp-from_IsLower _ _ (IsPowers-monomial_of vs a f) (IsPowers-monomial_of vs b f) (lower_words vs a b f (both a b _ h l))
  where
    both : (a b p : ℕ) → b < p → a < b → a % p < b % p
    both a b p h l = let first = mod_small a p (omega arith) in let second = mod_small b p h in omega arith

-- how many powers, and of which variables
pub few_powers : (vs : List ℕ) (w : ℕ) → length (monomial_of vs w) ≤ length vs
few_powers [] w = omega arith
few_powers (v ∷ vs) w = each (few_powers vs w) (more_cases v vs w)
  where
    each : length (monomial_of vs w) ≤ length vs → ((0 < lane w (length vs)) × (monomial_of (v ∷ vs) w ≡ (v, lane w (length vs)) ∷ monomial_of vs w)) ⊎ ((lane w (length vs) ≡ 0) × (monomial_of (v ∷ vs) w ≡ monomial_of vs w)) → length (monomial_of (v ∷ vs) w) ≤ length (v ∷ vs)
    each l (inl (k, e)) = let longer : length (monomial_of (v ∷ vs) w) ≡ suc (length (monomial_of vs w)) = ap length e in omega arith
    each l (inr (k, e)) = let same : length (monomial_of (v ∷ vs) w) ≡ length (monomial_of vs w) = ap length e in omega arith

pub low_variables : (vs : List ℕ) (w : ℕ) → AllByRecursion (λ v. v < 65536) vs → AllByRecursion (λ (p : ℕ × ℕ). p.0 < 65536) (monomial_of vs w)
low_variables [] w h = tt
low_variables (v ∷ vs) w h = each (low_variables vs w h.1) (more_cases v vs w)
  where
    each : AllByRecursion (λ (p : ℕ × ℕ). p.0 < 65536) (monomial_of vs w) → ((0 < lane w (length vs)) × (monomial_of (v ∷ vs) w ≡ (v, lane w (length vs)) ∷ monomial_of vs w)) ⊎ ((lane w (length vs) ≡ 0) × (monomial_of (v ∷ vs) w ≡ monomial_of vs w)) → AllByRecursion (λ (p : ℕ × ℕ). p.0 < 65536) (monomial_of (v ∷ vs) w)
    each rest (inl (l, e)) = subst (AllByRecursion (λ (p : ℕ × ℕ). p.0 < 65536)) (sym e) (h.0, rest)
    each rest (inr (l, e)) = subst (AllByRecursion (λ (p : ℕ × ℕ). p.0 < 65536)) (sym e) rest

-- the word of the monomial of a word
pub word_of-same : (vs : List ℕ) (m n : List (ℕ × ℕ)) → ((u : ℕ) → Contains vs u → exponent m u ≡ exponent n u) → word_of vs m ≡ word_of vs n
word_of-same [] m n h = refl
word_of-same (v ∷ vs) m n h = step (exponent m v) (exponent n v) (2 ^ (16 * length vs)) _ _ (h v (Contains-head v vs)) (word_of-same vs m n (λ u c. h u (Contains-tail v u vs c)))
  where
    step : (a b p x y : ℕ) → a ≡ b → x ≡ y → a * p + x ≡ b * p + y
    step a b p x y e f = ap (λ k. k * p + x) e ∙ ap (λ k. b * p + k) f

pub not_below : (v u : ℕ) (vs : List ℕ) → AllByRecursion (λ x. x < v) vs → Contains vs u → u < v
not_below v u [] h c = absurd (Contains-none u c)
not_below v u (x ∷ xs) h c = each (not_below v u xs h.1) (Contains-cases x u xs c)
  where
    each : (Contains xs u → u < v) → (x ≡ u) ⊎ Contains xs u → u < v
    each rest (inl e) = subst (λ k. k < v) e h.0
    each rest (inr k) = rest k

pub word_of-monomial : (vs : List ℕ) (w : ℕ) → AreFalling vs → word_of vs (monomial_of vs w) ≡ w % 2 ^ (16 * length vs)
word_of-monomial [] w f = sym (none w)
  where
    none : (w : ℕ) → w % 1 ≡ 0
    none w = omega (arith, mod_below w 1 (omega arith))
word_of-monomial (v ∷ vs) w f =
    ap (λ e. e * 2 ^ (16 * length vs) + word_of vs (monomial_of (v ∷ vs) w)) (own_exponent v vs w f.0)
    ∙ ap (λ k. lane w (length vs) * 2 ^ (16 * length vs) + k) (word_of-same vs (monomial_of (v ∷ vs) w) (monomial_of vs w) (λ u c. other_exponent v vs w u (apart u c)) ∙ word_of-monomial vs w f.1)
    ∙ sym (split w (length vs))
  where
    apart : (u : ℕ) → Contains vs u → v ≢ u
    apart u c e = let low : u < v = not_below v u vs f.0 c in absurd (omega arith)

-- whether it fits
FitsLayout-wider : (v : ℕ) (vs : List ℕ) (m : List (ℕ × ℕ)) → FitsLayout vs m → FitsLayout (v ∷ vs) m
FitsLayout-wider v vs [] h = tt
FitsLayout-wider v vs (p ∷ ps) h = ((Contains-tail v p.0 vs h.0.0, h.0.1), FitsLayout-wider v vs ps h.1)

pub FitsLayout-monomial : (vs : List ℕ) (w : ℕ) → ((n : ℕ) → n < length vs → lane w n ≤ 32767) → FitsLayout vs (monomial_of vs w)
FitsLayout-monomial [] w h = tt
FitsLayout-monomial (v ∷ vs) w h = each (FitsLayout-wider v vs _ (FitsLayout-monomial vs w (λ n l. h n (omega arith)))) (more_cases v vs w)
  where
    each : FitsLayout (v ∷ vs) (monomial_of vs w) → ((0 < lane w (length vs)) × (monomial_of (v ∷ vs) w ≡ (v, lane w (length vs)) ∷ monomial_of vs w)) ⊎ ((lane w (length vs) ≡ 0) × (monomial_of (v ∷ vs) w ≡ monomial_of vs w)) → FitsLayout (v ∷ vs) (monomial_of (v ∷ vs) w)
    each rest (inl (l, e)) = subst (FitsLayout (v ∷ vs)) (sym e) ((Contains-head v vs, h (length vs) (omega arith)), rest)
    each rest (inr (l, e)) = subst (FitsLayout (v ∷ vs)) (sym e) rest

-- the order of two words is that of their monomials
pub monomial_order : (vs : List ℕ) (a b : ℕ) → AreFalling vs → a < 2 ^ (16 * length vs) → b < 2 ^ (16 * length vs) → monomial_cmp (monomial_of vs a) (monomial_of vs b) ≡ nat_cmp a b
monomial_order vs a b f h k = each (nat_cmp a b) (ranked a b (nat_cmp a b) refl)
  where
    each : (o : Ordering) → MatchOrdering o (a < b) (a ≡ b) (b < a) → monomial_cmp (monomial_of vs a) (monomial_of vs b) ≡ o
    each Less l = lower_monomial vs a b f k l
    each Equal e = ap (λ w. monomial_cmp (monomial_of vs a) (monomial_of vs w)) (sym e) ∙ tied_itself monomial_cmp-IsTotalOrder (monomial_of vs a)
    each Greater l = monomial_cmp-IsTotalOrder.antisymm (monomial_of vs a) (monomial_of vs b) ∙ ap ordering_reverse (lower_monomial vs b a f h l)

-- a monomial that fits is that of its word
pub fits_small : (vs : List ℕ) (m : List (ℕ × ℕ)) (v : ℕ) → FitsLayout vs m → exponent m v ≤ 32767
fits_small vs [] v h = omega arith
fits_small vs (p ∷ ps) v h = each (fits_small vs ps v h.1) (eqb_tells p.0 v)
  where
    each : exponent ps v ≤ 32767 → ((p.0 == v ≡ true) × (p.0 ≡ v)) ⊎ ((p.0 == v ≡ false) × (p.0 ≢ v)) → exponent (p ∷ ps) v ≤ 32767
    each rest (inl (t, e)) = omega (arith, exponent_here p ps v e, h.0.1)
    each rest (inr (t, n)) = omega (arith, exponent_there p ps v n)

pub fits_known : (vs : List ℕ) (m : List (ℕ × ℕ)) (v : ℕ) → FitsLayout vs m → 0 < exponent m v → Contains vs v
fits_known vs [] v h l = absurd (omega arith)
fits_known vs (p ∷ ps) v h l = each (fits_known vs ps v h.1) (eqb_tells p.0 v)
  where
    each : (0 < exponent ps v → Contains vs v) → ((p.0 == v ≡ true) × (p.0 ≡ v)) ⊎ ((p.0 == v ≡ false) × (p.0 ≢ v)) → Contains vs v
    each rest (inl (t, e)) = subst (Contains vs) e h.0.0
    each rest (inr (t, n)) = rest (subst (λ k. 0 < k) (exponent_there p ps v n) l)

pub fitting_monomial : (vs : List ℕ) (m : List (ℕ × ℕ)) (w : ℕ) → IsLayout vs → IsPowers m → FitsLayout vs m → w ≡ word_of vs m → monomial_of vs w ≡ m
fitting_monomial vs m w y h f e =
    monomial_of-word vs m w y.falling h (λ v. let small = fits_small vs m v f in omega arith) (λ v l. fits_known vs m v f l) e

pub word_small : (vs : List ℕ) (m : List (ℕ × ℕ)) (w : ℕ) → IsWordIn vs m w → w < 2 ^ 127
word_small vs m w g = half w (2 ^ (16 * length vs)) (subst (λ x. x + x < 2 ^ (16 * length vs)) (sym g.value) (word_half vs m (λ v. fits_small vs m v g.fits))) (ap (λ n. 2 ^ (16 * n)) g.layout.eight)
  where
    half : (x p : ℕ) → x + x < p → p ≡ 2 ^ 128 → x < 2 ^ 127
    half x p l e = omega arith
