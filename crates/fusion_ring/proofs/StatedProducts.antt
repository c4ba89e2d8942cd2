-- A stated ring has the listed triples and the products of the unit, and no others.
use Rattle.std.specs.Prelude.{◌≡◌, ℕ, ◌<◌, ◌≤◌, ◌⊎◌, ◌↔◌, Bool, true, false, IsTrue, ◌&&◌, ◌||◌, not, ◌==◌, nat_lt, List, [], ◌∷◌, length, position, None, Contains, refl}
use Rattle.std.specs.List.{position_or_len}
use Rattle.std.proofs.Common.{arith, sym as back, ◌∙◌, ap, subst, inl, inr}
use Rattle.std.proofs.lemmas.Bool.Decides.{nat_tests}
use Rattle.std.proofs.lemmas.Grind.{common_steps}
use Rattle.std.proofs.lemmas.List.Sums.{fails_before_first}
use Rattle.label_tuples.proofs.Members.{none_contained, contains_here, contains_there, contains_cons}
use Rattle.fusion_ring.specs.declared.Triple.{Triple}
use Rattle.fusion_ring.specs.Fusion.{Fusion, channel}
use Rattle.fusion_ring.specs.Listed.{is_in_range, is_at, is_listed, is_unit_product, stated, IsUnitProduct, IsStatedProduct}
use Rattle.fusion_ring.specs.Faults.{IsInRange, IsRingOf}
use Rattle.fusion_ring.proofs.Channels.{and_intro, and_left, and_right, below_of, first_below, second_below, channel_below}
use Rattle.fusion_ring.proofs.Stated.{channel-stated}

either : (x y : Bool) → IsTrue (x || y) → IsTrue x ⊎ IsTrue y
either true y h = inl refl
either false y h = inr h

first_of : (x y : Bool) → IsTrue x → IsTrue (x || y)
first_of true y h = refl
first_of false y h = absurd (cc h)

second_of : (x y : Bool) → IsTrue y → IsTrue (x || y)
second_of true y h = refl
second_of false y h = h

equal_of : (a b : ℕ) → IsTrue (a == b) → a ≡ b
equal_of a b h = grind (arith, nat_tests)

equal_test : (a b : ℕ) → a ≡ b → IsTrue (a == b)
equal_test a b e = grind (arith, nat_tests)

abbrev triple : ℕ → ℕ → ℕ → Triple
triple a b c = record { a = a; b = b; c = c }

same_triple : (p q : Triple) → p.a ≡ q.a → p.b ≡ q.b → p.c ≡ q.c → p ≡ q
same_triple p q e f g = ap (λ a. triple a p.b p.c) e ∙ ap (λ b. triple q.a b p.c) f ∙ ap (λ c. triple q.a q.b c) g

module _ (q : Triple) where
  at_itself : IsTrue (is_at (q.a, q.b, q.c) q)
  at_itself = grind (arith, nat_tests)

  at_is : (p : Triple) → IsTrue (is_at (q.a, q.b, q.c) p) → p ≡ q
  at_is p h =
      let front = and_left (p.a == q.a && p.b == q.b) (p.c == q.c) h in
      same_triple p q
      (equal_of p.a q.a (and_left (p.a == q.a) (p.b == q.b) front))
      (equal_of p.b q.b (and_right (p.a == q.a) (p.b == q.b) front))
      (equal_of p.c q.c (and_right (p.a == q.a && p.b == q.b) (p.c == q.c) h))

  listed_contains : (ps : List Triple) → IsTrue (is_listed ps (q.a, q.b, q.c)) → Contains ps q
  listed_contains [] h = absurd (cc h)
  listed_contains (p ∷ ps) h =
      elim (either (is_at (q.a, q.b, q.c) p) (is_listed ps (q.a, q.b, q.c)) h) [
        | inl i ↦ subst (λ r. Contains (p ∷ ps) r) (at_is p i) (contains_here p ps)
        | inr i ↦ contains_there q p ps (listed_contains ps i)
      ]

  contains_listed : (ps : List Triple) → Contains ps q → IsTrue (is_listed ps (q.a, q.b, q.c))
  contains_listed [] m = absurd (none_contained q m)
  contains_listed (p ∷ ps) m =
      elim (contains_cons q p ps m) [
        | inl e ↦ first_of (is_at (q.a, q.b, q.c) p) (is_listed ps (q.a, q.b, q.c)) (subst (λ r. IsTrue (is_at (q.a, q.b, q.c) r)) (back e) at_itself)
        | inr i ↦ second_of (is_at (q.a, q.b, q.c) p) (is_listed ps (q.a, q.b, q.c)) (contains_listed ps i)
      ]

module _ (n : ℕ) (products : List Triple) (q : Triple) where
  module _ (in_range : IsInRange n products) where
    contained_in_range : Contains products q → IsTrue (is_in_range n q)
    contained_in_range m =
        let all : length products ≤ position_or_len (λ p. not (is_in_range n p)) products = grind (arith, common_steps, in_range.range) in
        let passes = fails_before_first (λ p. not (is_in_range n p)) products m.0 q (omega (arith, m.1)) in
        subst (λ p. IsTrue (is_in_range n p)) m.2 (grind (arith, common_steps))

    labels_of : IsStatedProduct n products q → (q.a < n) × (q.b < n) × (q.c < n)
    labels_of (inl m) =
        let h = contained_in_range m in
        let front = and_left (nat_lt q.a n && nat_lt q.b n) (nat_lt q.c n) h in
        (below_of q.a n (and_left (nat_lt q.a n) (nat_lt q.b n) front), below_of q.b n (and_right (nat_lt q.a n) (nat_lt q.b n) front), below_of q.c n (and_right (nat_lt q.a n && nat_lt q.b n) (nat_lt q.c n) h))
    labels_of (inr (inl u)) = (omega (arith, u.0, u.1), u.1, omega (arith, u.1, u.2))
    labels_of (inr (inr u)) = (u.1, omega (arith, u.0, u.1), omega (arith, u.1, u.2))

    tested : IsStatedProduct n products q → IsTrue (is_listed products (q.a, q.b, q.c) || is_unit_product (q.a, q.b, q.c))
    tested (inl m) = first_of (is_listed products (q.a, q.b, q.c)) (is_unit_product (q.a, q.b, q.c)) (contains_listed q products m)
    tested (inr u) = second_of (is_listed products (q.a, q.b, q.c)) (is_unit_product (q.a, q.b, q.c)) (by_side u)
      where
        by_side : IsUnitProduct n q → IsTrue (is_unit_product (q.a, q.b, q.c))
        by_side (inl u) = first_of (q.a == 0 && q.c == q.b) (q.b == 0 && q.c == q.a) (and_intro (q.a == 0) (q.c == q.b) (equal_test q.a 0 u.0) (equal_test q.c q.b u.2))
        by_side (inr u) = second_of (q.a == 0 && q.c == q.b) (q.b == 0 && q.c == q.a) (and_intro (q.b == 0) (q.c == q.a) (equal_test q.b 0 u.0) (equal_test q.c q.a u.2))

    channel_from_stated : IsStatedProduct n products q → IsTrue (channel (stated n products) q.a q.b q.c)
    channel_from_stated h = let l = labels_of h in channel-stated n products q.a q.b q.c l.0 l.1 l.2 ∙ tested h

  unit_from_test : q.a < n → q.b < n → IsTrue (is_unit_product (q.a, q.b, q.c)) → IsUnitProduct n q
  unit_from_test k l h =
      elim (either (q.a == 0 && q.c == q.b) (q.b == 0 && q.c == q.a) h) [
        | inl i ↦ inl (equal_of q.a 0 (and_left (q.a == 0) (q.c == q.b) i), l, equal_of q.c q.b (and_right (q.a == 0) (q.c == q.b) i))
        | inr i ↦ inr (equal_of q.b 0 (and_left (q.b == 0) (q.c == q.a) i), k, equal_of q.c q.a (and_right (q.b == 0) (q.c == q.a) i))
      ]

  stated_from_channel : IsTrue (channel (stated n products) q.a q.b q.c) → IsStatedProduct n products q
  stated_from_channel h =
      let a = first_below (stated n products) q.a q.b q.c h in
      let b = second_below (stated n products) q.a q.b q.c h in
      let c = channel_below (stated n products) q.a q.b q.c h in
      elim (either (is_listed products (q.a, q.b, q.c)) (is_unit_product (q.a, q.b, q.c)) (back (channel-stated n products q.a q.b q.c a b c) ∙ h)) [
        | inl i ↦ inl (listed_contains q products i)
        | inr i ↦ inr (unit_from_test a b i)
      ]

  pub channel_is : (r : Fusion) → IsRingOf n products r → IsTrue (channel r q.a q.b q.c) ↔ IsStatedProduct n products q
  channel_is r h =
      subst (λ (s : Fusion). IsTrue (channel s q.a q.b q.c) ↔ IsStatedProduct n products q) (back h.is_stated)
      (stated_from_channel, channel_from_stated h.commutative.with_duals.unital.without_repeats.in_range)
