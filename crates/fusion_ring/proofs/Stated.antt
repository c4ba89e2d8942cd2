-- The channels of the ring that a list of triples states, and the law of its unit.
use Rattle.std.specs.Prelude.{◌≡◌, ℕ, ◌+◌, ◌*◌, ◌<◌, Bool, true, false, ◌&&◌, ◌||◌, not, ◌==◌, nat_lt, List, length, refl}
use Rattle.std.specs.Bool.{beq}
use Rattle.std.proofs.Common.{arith, sym as back, ◌∙◌, ap, lt-ltb}
use Rattle.std.proofs.lemmas.Bool.Decides.{nat_tests}
use Rattle.std.proofs.lemmas.Cmp.{nat_eq_equiv}
use Rattle.std.proofs.lemmas.List.{get_or-map, length-map}
use Rattle.label_tuples.specs.Extended.{all_pairs, all_triples}
use Rattle.label_tuples.proofs.Members.{contains_pairs, triples_contain}
use Rattle.label_tuples.proofs.Places.{length_triples, get_triples}
use Rattle.fusion_ring.specs.declared.Triple.{Triple}
use Rattle.fusion_ring.specs.Fusion.{channel}
use Rattle.fusion_ring.specs.Rings.{HoldsAtAll, has_unit_law}
use Rattle.fusion_ring.specs.Listed.{is_listed, is_product, keeps_unit, stated}
use Rattle.fusion_ring.proofs.Indices.{in_table}

all_true : (x y z v : Bool) → x ≡ true → y ≡ true → z ≡ true → ((x && y && z) && v) ≡ v
all_true true true true v e f g = refl
all_true true true false v e f g = absurd (cc g)
all_true true false z v e f g = absurd (cc f)
all_true false y z v e f g = absurd (cc e)

-- N(a,b,c) = 1 in the stated ring exactly for the listed triples and the products of the unit
pub channel-stated : (n : ℕ) (products : List Triple) (a b c : ℕ) → a < n → b < n → c < n → channel (stated n products) a b c ≡ is_product products (a, b, c)
channel-stated n products a b c h k l =
    all_true (nat_lt a n) (nat_lt b n) (nat_lt c n) _ (lt-ltb a n h) (lt-ltb b n k) (lt-ltb c n l)
    ∙ get_or-map (is_product products) (all_triples n) ((a * n + b) * n + c) (0, 0, 0) false (rw (length_triples n) (in_table a b c n h k l))
    ∙ ap (is_product products) (get_triples n a b c (0, 0, 0) h k l)

-- for x, y, z that say c = a, a = 0, c = 0
left_unit : (l x y z : Bool) → not (l && (true && not x || y && not z)) ≡ true → ((y && z) ≡ true → x ≡ true) → (l || (true && x || y && z)) ≡ x
left_unit true true y z h k = refl
left_unit false true y z h k = refl
left_unit true false y z h k = absurd (cc h)
left_unit false false true true h k = back (k refl)
left_unit false false true false h k = refl
left_unit false false false z h k = refl

right_unit : (l x y z : Bool) → not (l && (y && not z || true && not x)) ≡ true → ((y && z) ≡ true → x ≡ true) → (l || (y && z || true && x)) ≡ x
right_unit true true y z h k = refl
right_unit true false true true h k = absurd (cc h)
right_unit true false true false h k = absurd (cc h)
right_unit true false false z h k = absurd (cc h)
right_unit false true true true h k = refl
right_unit false true true false h k = refl
right_unit false true false z h k = refl
right_unit false false true true h k = back (k refl)
right_unit false false true false h k = refl
right_unit false false false z h k = refl

both_zero : (a c : ℕ) → (a == 0 && c == 0) ≡ true → (c == a) ≡ true
both_zero a c h = grind (arith, nat_tests)

both_equal : (x y z : Bool) → x ≡ z → y ≡ z → (beq x z && beq y z) ≡ true
both_equal true true true e f = refl
both_equal false false false e f = refl
both_equal true true false e f = absurd (cc e)
both_equal true false true e f = absurd (cc f)
both_equal true false false e f = absurd (cc e)
both_equal false true true e f = absurd (cc e)
both_equal false true false e f = absurd (cc f)
both_equal false false true e f = absurd (cc e)

module _ (n : ℕ) (products : List Triple) (positive : 0 < n) (keeps : HoldsAtAll (all_triples n) (keeps_unit products)) where
  unit_law_at : (a c : ℕ) → a < n → c < n → has_unit_law (stated n products) a c ≡ true
  unit_law_at a c h k =
      let same : (c == a) ≡ (a == c) = nat_eq_equiv.symm c a in
      let left = channel-stated n products 0 a c positive h k ∙ left_unit (is_listed products (0, a, c)) (c == a) (a == 0) (c == 0) (keeps (0, a, c) (triples_contain n 0 a c positive h k)) (both_zero a c) ∙ same in
      let right = channel-stated n products a 0 c h positive k ∙ right_unit (is_listed products (a, 0, c)) (c == a) (a == 0) (c == 0) (keeps (a, 0, c) (triples_contain n a 0 c h positive k)) (both_zero a c) ∙ same in
      both_equal (channel (stated n products) 0 a c) (channel (stated n products) a 0 c) (a == c) left right

  pub unit_law : HoldsAtAll (all_pairs n) (λ t. has_unit_law (stated n products) t.0 t.1)
  unit_law t m = let r = contains_pairs n t m in unit_law_at t.0 t.1 r.0 r.1

pub length_stated : (n : ℕ) (products : List Triple) → length (stated n products).table ≡ n * n * n
length_stated n products = length-map (all_triples n) (is_product products) ∙ length_triples n
