-- The order of monomials by their exponents, and that it is compatible with multiplication.
use Rattle.std.specs.Prelude.{◌≡◌, ◌≢◌, ◌<◌, ◌≤◌, ℕ, true, false, nat_lt, ◌==◌, List, [], ◌∷◌, refl}
use mathlib.Core.Logic.{◌⊎◌, inl, inr}
use Rattle.std.proofs.Common.{arith, sym, ◌∙◌, ap}
use Rattle.std.proofs.lemmas.Bool.Decides.{nat_tests, eqb_tells}
use Rattle.std.specs.Ordering.{nat_cmp, MatchOrdering, ordering_then, ordering_reverse}
use Rattle.std.proofs.lemmas.Cmp.{ranked}
use Rattle.std.specs.declared.cmp.Ordering.{Ordering}
use Rattle.std.specs.declared.cmp.Ordering.TheVariants.{Less, Equal, Greater}
use Rattle.monomial.specs.Monomials.{exponent, monomial_times, monomial_cmp, IsBelow, IsLower, IsPowers, without}
use Rattle.monomial.proofs.Exponents.{exponent_here, exponent_there, exponent_above, exponent-times, IsPowers-times, IsBelow-more, IsPowers-without, exponent-without, exponent-without_own}
use Rattle.monomial.proofs.Total.{monomial_cmp-IsAntisymmetric, monomial_cmp-IsTotalOrder}

head_lower : (a b : ℕ × ℕ) (xs ys : List (ℕ × ℕ)) → a.0 < b.0 → IsPowers (a ∷ xs) → IsPowers (b ∷ ys) → IsLower (a ∷ xs) (b ∷ ys)
head_lower a b xs ys l h i =
    let some : 0 < b.1 = i.0 in
    let first : IsBelow b.0 (a ∷ xs) = (l, IsBelow-more a.0 b.0 xs (omega arith) h.1) in
    record {
      at = b.0;
      smaller = omega (arith, exponent_here b ys b.0 refl, exponent_above b.0 (a ∷ xs) b.0 first (omega arith));
      same = λ w l. exponent_above b.0 (a ∷ xs) w first (omega arith) ∙ sym (exponent_there b ys w (λ e. absurd (omega arith)) ∙ exponent_above b.0 ys w i.1 (omega arith));
    }

exp_lower : (a b : ℕ × ℕ) (xs ys : List (ℕ × ℕ)) → a.0 ≡ b.0 → a.1 < b.1 → IsPowers (a ∷ xs) → IsPowers (b ∷ ys) → IsLower (a ∷ xs) (b ∷ ys)
exp_lower a b xs ys e l h i = record {
  at = b.0;
  smaller = omega (arith, exponent_here b ys b.0 refl, exponent_here a xs b.0 e);
  same = λ w l. exponent_there a xs w (λ f. absurd (omega arith)) ∙ exponent_above a.0 xs w h.1 (omega arith) ∙ sym (exponent_there b ys w (λ f. absurd (omega arith)) ∙ exponent_above b.0 ys w i.1 (omega arith));
}

pub low_place : (b : ℕ × ℕ) (ys : List (ℕ × ℕ)) (v n : ℕ) → IsBelow b.0 ys → n < exponent ys v → v < b.0
low_place b ys v n i l = elim (nat_lt v b.0) as (λ t. nat_lt v b.0 ≡ t → v < b.0) [
  | true ↦ λ e. grind (arith, nat_tests)
  | false ↦ λ e. let past : b.0 ≤ v = grind (arith, nat_tests) in absurd (omega (arith, exponent_above b.0 ys v i past))
] refl

tail_lower : (a b : ℕ × ℕ) (xs ys : List (ℕ × ℕ)) → a.0 ≡ b.0 → a.1 ≡ b.1 → IsPowers (a ∷ xs) → IsPowers (b ∷ ys) → IsLower xs ys → IsLower (a ∷ xs) (b ∷ ys)
tail_lower a b xs ys e f h i r =
    let low : r.at < b.0 = low_place b ys r.at (exponent xs r.at) i.1 r.smaller in
    let away : a.0 ≢ r.at = λ g. absurd (omega arith) in
    let away_too : b.0 ≢ r.at = λ g. absurd (omega arith) in
    record {
      at = r.at;
      smaller = omega (arith, r.smaller, exponent_there a xs r.at away, exponent_there b ys r.at away_too);
      same = λ w l. each w l (eqb_tells a.0 w);
    }
  where
    each : (w : ℕ) → r.at < w → ((a.0 == w ≡ true) × (a.0 ≡ w)) ⊎ ((a.0 == w ≡ false) × (a.0 ≢ w)) → exponent (a ∷ xs) w ≡ exponent (b ∷ ys) w
    each w l (inl (t, g)) = exponent_here a xs w g ∙ f ∙ sym (exponent_here b ys w (sym e ∙ g))
    each w l (inr (t, n)) = exponent_there a xs w n ∙ r.same w l ∙ sym (exponent_there b ys w (λ g. n (e ∙ g)))

heads_lower : (a b : ℕ × ℕ) (xs ys : List (ℕ × ℕ)) → IsPowers (a ∷ xs) → IsPowers (b ∷ ys) → (monomial_cmp xs ys ≡ Less → IsLower xs ys) → monomial_cmp (a ∷ xs) (b ∷ ys) ≡ Less → IsLower (a ∷ xs) (b ∷ ys)
heads_lower a b xs ys h i rest e = first (nat_cmp a.0 b.0) (ranked a.0 b.0 (nat_cmp a.0 b.0) refl) e
  where
    second : (o : Ordering) → MatchOrdering o (a.1 < b.1) (a.1 ≡ b.1) (b.1 < a.1) → a.0 ≡ b.0 → ordering_then o (monomial_cmp xs ys) ≡ Less → IsLower (a ∷ xs) (b ∷ ys)
    second Less m f e = exp_lower a b xs ys f m h i
    second Equal m f e = tail_lower a b xs ys f m h i (rest e)
    second Greater m f e = absurd (cc e)

    first : (o : Ordering) → MatchOrdering o (a.0 < b.0) (a.0 ≡ b.0) (b.0 < a.0) → ordering_then (ordering_then o (nat_cmp a.1 b.1)) (monomial_cmp xs ys) ≡ Less → IsLower (a ∷ xs) (b ∷ ys)
    first Less m e = head_lower a b xs ys m h i
    first Equal m e = second (nat_cmp a.1 b.1) (ranked a.1 b.1 (nat_cmp a.1 b.1) refl) m e
    first Greater m e = absurd (cc e)

pub IsLower-from_cmp : (xs ys : List (ℕ × ℕ)) → IsPowers xs → IsPowers ys → monomial_cmp xs ys ≡ Less → IsLower xs ys
IsLower-from_cmp [] [] h i e = absurd (cc e)
IsLower-from_cmp [] (b ∷ ys) h i e =
    let some : 0 < b.1 = i.0 in
    record {
      at = b.0;
      smaller = omega (arith, exponent_here b ys b.0 refl);
      same = λ w l. sym (exponent_there b ys w (λ f. absurd (omega arith)) ∙ exponent_above b.0 ys w i.1 (omega arith));
    }
IsLower-from_cmp (a ∷ xs) [] h i e = absurd (cc e)
IsLower-from_cmp (a ∷ xs) (b ∷ ys) h i e = heads_lower a b xs ys h i (λ k. IsLower-from_cmp xs ys h.2 i.2 k) e

not_both : (xs ys : List (ℕ × ℕ)) → IsLower xs ys → IsLower ys xs → ⊥
not_both xs ys p q =
    let first : p.at < q.at → ⊥ = λ l. absurd (omega (arith, p.same q.at l, q.smaller)) in
    let second : q.at < p.at → ⊥ = λ l. absurd (omega (arith, q.same p.at l, p.smaller)) in
    let here : p.at ≡ q.at = omega (arith, first, second) in
    absurd (omega (arith, p.smaller, q.smaller, ap (exponent xs) here, ap (exponent ys) here))

pub cmp-from_IsLower : (xs ys : List (ℕ × ℕ)) → IsPowers xs → IsPowers ys → IsLower xs ys → monomial_cmp xs ys ≡ Less
cmp-from_IsLower xs ys h i l = each (monomial_cmp xs ys) refl
  where
    each : (o : Ordering) → monomial_cmp xs ys ≡ o → monomial_cmp xs ys ≡ Less
    each Less e = e
    each Equal e = absurd (omega (arith, l.smaller, ap (λ ps. exponent ps l.at) (monomial_cmp-IsAntisymmetric xs ys e)))
    each Greater e = absurd (not_both xs ys l (IsLower-from_cmp ys xs i h (monomial_cmp-IsTotalOrder.antisymm ys xs ∙ ap ordering_reverse e)))

-- products with one monomial keep the order
pub monomial_cmp-times : (m xs ys : List (ℕ × ℕ)) → IsPowers m → IsPowers xs → IsPowers ys → monomial_cmp xs ys ≡ Less → monomial_cmp (monomial_times m xs) (monomial_times m ys) ≡ Less
monomial_cmp-times m xs ys g h i e =
    let l = IsLower-from_cmp xs ys h i e in
    cmp-from_IsLower _ _ (IsPowers-times m xs g h) (IsPowers-times m ys g i) (record {
      at = l.at;
      smaller = omega (arith, exponent-times m xs l.at g h, exponent-times m ys l.at g i, l.smaller);
      same = λ w k. omega (arith, exponent-times m xs w g h, exponent-times m ys w g i, l.same w k);
    })

-- and so does leaving a common factor out
pub monomial_cmp-times_back : (m xs ys : List (ℕ × ℕ)) → IsPowers m → IsPowers xs → IsPowers ys → monomial_cmp (monomial_times m xs) (monomial_times m ys) ≡ Less → monomial_cmp xs ys ≡ Less
monomial_cmp-times_back m xs ys g h i e =
    let l = IsLower-from_cmp _ _ (IsPowers-times m xs g h) (IsPowers-times m ys g i) e in
    cmp-from_IsLower xs ys h i (record {
      at = l.at;
      smaller = omega (arith, exponent-times m xs l.at g h, exponent-times m ys l.at g i, l.smaller);
      same = λ w k. omega (arith, exponent-times m xs w g h, exponent-times m ys w g i, l.same w k);
    })

-- monomials with one exponent of v keep their order without v
pub monomial_cmp-without : (v : ℕ) (xs ys : List (ℕ × ℕ)) → IsPowers xs → IsPowers ys → exponent xs v ≡ exponent ys v → monomial_cmp xs ys ≡ Less → monomial_cmp (without v xs) (without v ys) ≡ Less
monomial_cmp-without v xs ys h i f e =
    let l = IsLower-from_cmp xs ys h i e in
    let away : v ≢ l.at = λ g. absurd (omega (arith, l.smaller, f, ap (exponent xs) g, ap (exponent ys) g)) in
    cmp-from_IsLower _ _ (IsPowers-without v xs h) (IsPowers-without v ys i) (record {
      at = l.at;
      smaller = omega (arith, l.smaller, exponent-without v l.at xs away, exponent-without v l.at ys away);
      same = λ w k. each w (l.same w k) (eqb_tells v w);
    })
  where
    each : (w : ℕ) → exponent xs w ≡ exponent ys w → ((v == w ≡ true) × (v ≡ w)) ⊎ ((v == w ≡ false) × (v ≢ w)) → exponent (without v xs) w ≡ exponent (without v ys) w
    each w s (inl (t, g)) = ap (exponent (without v xs)) (sym g) ∙ exponent-without_own v xs ∙ sym (ap (exponent (without v ys)) (sym g) ∙ exponent-without_own v ys)
    each w s (inr (t, n)) = exponent-without v w xs n ∙ s ∙ sym (exponent-without v w ys n)
