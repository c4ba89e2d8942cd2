-- When a list of triples states a ring, and what is wrong where it does not.
use Rattle.std.specs.Prelude.{◌≡◌, ℕ, ◌<◌, ◌≤◌, ◌⊎◌, not, None, Some, List, position}
use Rattle.label_tuples.specs.Extended.{all_singles, all_triples, all_fours}
use Rattle.label_tuples.specs.Order.{Before1, Before3, Before4, IsLeastFailing}
use Rattle.fusion_ring.specs.declared.Triple.{Triple}
use Rattle.fusion_ring.specs.declared.RingFault.{RingFault}
use Rattle.fusion_ring.specs.declared.RingFault.TheVariants.{LabelCount, LabelRange, Multiplicity, UnitFault, DualFault, NotCommutative, NotAssociative, OutOfMemory}
use Rattle.fusion_ring.specs.Fusion.{Fusion}
use Rattle.fusion_ring.specs.Rings.{HoldsAtAll, has_dual, is_commutative, is_associative, IsFusionRing}
use Rattle.fusion_ring.specs.Listed.{is_in_range, is_single, keeps_unit, stated}

-- 1 to 12 labels
abbrev pub IsLabelCount : ℕ → Type 0
IsLabelCount n = (1 ≤ n) × (n ≤ 12)

-- and all numbers are labels
pub record IsInRange (n : ℕ) (products : List Triple) : Type 0 where
  pub labels : IsLabelCount n
  pub range : position (λ p. not (is_in_range n p)) products ≡ None

-- and no triple is listed twice
pub record IsWithoutRepeats (n : ℕ) (products : List Triple) : Type 0 where
  pub in_range : IsInRange n products
  pub single : HoldsAtAll (all_triples n) (is_single products)

-- and none breaks a product of the unit
pub record IsUnital (n : ℕ) (products : List Triple) : Type 0 where
  pub without_repeats : IsWithoutRepeats n products
  pub unit : HoldsAtAll (all_triples n) (keeps_unit products)

-- and each label of the stated ring has a dual
pub record IsWithDuals (n : ℕ) (products : List Triple) : Type 0 where
  pub unital : IsUnital n products
  pub duals : HoldsAtAll (all_singles n) (has_dual (stated n products))

-- and the stated ring is commutative
pub record IsCommutative (n : ℕ) (products : List Triple) : Type 0 where
  pub with_duals : IsWithDuals n products
  pub commutative : HoldsAtAll (all_triples n) (λ t. is_commutative (stated n products) t.0 t.1 t.2)

-- r is the ring that the list states: all of the above hold, and the four rules of a fusion ring
pub record IsRingOf (n : ℕ) (products : List Triple) (r : Fusion) : Type 0 where
  pub is_stated : r ≡ stated n products
  pub commutative : IsCommutative n products
  pub rules : IsFusionRing r

-- the first rule that fails, and the least index or the least labels at which it does
abbrev pub IsRingFault : ℕ → List Triple → RingFault → Type 0
IsRingFault n products (LabelCount m) = (m ≡ n) × ((n ≡ 0) ⊎ (12 < n))
IsRingFault n products (LabelRange i) = IsLabelCount n × (position (λ p. not (is_in_range n p)) products ≡ Some i)
IsRingFault n products (Multiplicity a b c) = IsInRange n products × IsLeastFailing Before3 (all_triples n) (is_single products) (a, b, c)
IsRingFault n products (UnitFault a b c) = IsWithoutRepeats n products × IsLeastFailing Before3 (all_triples n) (keeps_unit products) (a, b, c)
IsRingFault n products (DualFault a) = IsUnital n products × IsLeastFailing Before1 (all_singles n) (has_dual (stated n products)) a
IsRingFault n products (NotCommutative a b c) = IsWithDuals n products × IsLeastFailing Before3 (all_triples n) (λ t. is_commutative (stated n products) t.0 t.1 t.2) (a, b, c)
IsRingFault n products (NotAssociative a b c d) = IsCommutative n products × IsLeastFailing Before4 (all_fours n) (λ t. is_associative (stated n products) t.0 t.1 t.2 t.3) (a, b, c, d)
IsRingFault n products OutOfMemory = Unit {0}
