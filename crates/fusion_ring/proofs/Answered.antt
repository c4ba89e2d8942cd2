-- A list of triples has at most one answer: a fault says that its rule fails, and that the rules before it hold.
use Rattle.std.specs.Prelude.{◌≡◌, ◌≢◌, ℕ, zero, suc, ◌≤◌, Bool, List, refl}
use Rattle.std.proofs.Common.{arith, sym as back, ◌∙◌, ap, subst, inl, inr}
use Rattle.std.proofs.lemmas.Bool.{cases_order}
use Rattle.label_tuples.specs.Extended.{all_singles, all_triples, all_fours}
use Rattle.label_tuples.specs.Order.{Before1, Before3, Before4, IsLeastFailing}
use Rattle.fusion_ring.proofs.Total.{one_least, total1, total3, total4}
use Rattle.fusion_ring.specs.declared.Triple.{Triple}
use Rattle.fusion_ring.specs.declared.RingFault.{RingFault}
use Rattle.fusion_ring.specs.declared.RingFault.TheVariants.{LabelCount, LabelRange, Multiplicity, UnitFault, DualFault, NotCommutative, NotAssociative, OutOfMemory}
use Rattle.fusion_ring.specs.Fusion.{Fusion}
use Rattle.fusion_ring.specs.Rings.{HoldsAtAll, has_dual, is_commutative, is_associative}
use Rattle.fusion_ring.specs.Listed.{is_single, keeps_unit, stated}
use Rattle.fusion_ring.specs.Faults.{IsLabelCount, IsInRange, IsWithoutRepeats, IsUnital, IsWithDuals, IsCommutative, IsRingOf, IsRingFault}

-- the first k rules hold
abbrev Passes : ℕ → List Triple → ℕ → Type 0
Passes n products zero = Unit {0}
Passes n products (suc zero) = IsLabelCount n
Passes n products (suc (suc zero)) = IsInRange n products
Passes n products (suc (suc (suc zero))) = IsWithoutRepeats n products
Passes n products (suc (suc (suc (suc zero)))) = IsUnital n products
Passes n products (suc (suc (suc (suc (suc zero))))) = IsWithDuals n products
Passes n products (suc (suc (suc (suc (suc (suc zero)))))) = IsCommutative n products
Passes n products (suc (suc (suc (suc (suc (suc (suc k))))))) = IsCommutative n products × HoldsAtAll (all_fours n) (λ t. is_associative (stated n products) t.0 t.1 t.2 t.3)

-- the rule that fails, by its number; want of memory stands behind all rules
abbrev rule_of : RingFault → ℕ
rule_of (LabelCount m) = 0
rule_of (LabelRange i) = 1
rule_of (Multiplicity a b c) = 2
rule_of (UnitFault a b c) = 3
rule_of (DualFault a) = 4
rule_of (NotCommutative a b c) = 5
rule_of (NotAssociative a b c d) = 6
rule_of OutOfMemory = 7

fails : {X : Type 0} (Before : X → X → Type 0) (among : List X) (holds : X → Bool) (t : X) → IsLeastFailing Before among holds t → ¬ HoldsAtAll among holds
fails Before among holds t h all = absurd (cc (all t h.1, h.0))

module _ (n : ℕ) (products : List Triple) where
  passes_less : (k : ℕ) → Passes n products (suc k) → Passes n products k
  passes_less zero h = tt
  passes_less (suc zero) h = h.labels
  passes_less (suc (suc zero)) h = h.in_range
  passes_less (suc (suc (suc zero))) h = h.without_repeats
  passes_less (suc (suc (suc (suc zero)))) h = h.unital
  passes_less (suc (suc (suc (suc (suc zero))))) h = h.with_duals
  passes_less (suc (suc (suc (suc (suc (suc zero)))))) h = h.0
  passes_less (suc (suc (suc (suc (suc (suc (suc k))))))) h = h

  passes_down : (j i : ℕ) → i ≤ j → Passes n products j → Passes n products i
  passes_down zero i l h = let e : 0 ≡ i = omega arith in subst (Passes n products) e h
  passes_down (suc j) i l h = elim (cases_order i (suc j)) [
    | inl e ↦ subst (Passes n products) (back e) h
    | inr o ↦ let k : i ≤ j = elim o [ inl a ↦ omega arith | inr a ↦ omega arith ] in passes_down j i k (passes_less j h)
  ]

  -- the rules before hold, and this one does not
  at_rule : (fault : RingFault) → fault ≢ OutOfMemory → IsRingFault n products fault → Passes n products (rule_of fault) × ¬ Passes n products (suc (rule_of fault))
  at_rule (LabelCount m) z h = (tt, λ p. elim h.1 [ inl e ↦ omega arith | inr l ↦ omega arith ])
  at_rule (LabelRange i) z h = (h.0, λ p. cc (p.range, h.1))
  at_rule (Multiplicity a b c) z h = (h.0, λ p. fails Before3 (all_triples n) (is_single products) (a, b, c) h.1 p.single)
  at_rule (UnitFault a b c) z h = (h.0, λ p. fails Before3 (all_triples n) (keeps_unit products) (a, b, c) h.1 p.unit)
  at_rule (DualFault a) z h = (h.0, λ p. fails Before1 (all_singles n) (has_dual (stated n products)) a h.1 p.duals)
  at_rule (NotCommutative a b c) z h = (h.0, λ p. fails Before3 (all_triples n) (λ t. is_commutative (stated n products) t.0 t.1 t.2) (a, b, c) h.1 p.commutative)
  at_rule (NotAssociative a b c d) z h = (h.0, λ p. fails Before4 (all_fours n) (λ t. is_associative (stated n products) t.0 t.1 t.2 t.3) (a, b, c, d) h.1 p.1)
  at_rule OutOfMemory z h = absurd (z refl)

  same_rule : (first second : RingFault) → IsRingFault n products first → IsRingFault n products second → first ≢ OutOfMemory → second ≢ OutOfMemory → rule_of first ≡ rule_of second
  same_rule first second h k y z =
      let f = at_rule first y h in
      let s = at_rule second z k in
      elim (cases_order (rule_of first) (rule_of second)) [
        | inl e ↦ e
        | inr o ↦ elim o [
          | inl l ↦ absurd (f.1 (passes_down (rule_of second) (suc (rule_of first)) (omega (arith, l)) s.0))
          | inr l ↦ absurd (s.1 (passes_down (rule_of first) (suc (rule_of second)) (omega (arith, l)) f.0))
        ]
      ]

  pub one_fault : (first second : RingFault) → IsRingFault n products first → IsRingFault n products second → first ≢ OutOfMemory → second ≢ OutOfMemory → first ≡ second
  one_fault first second h k y z = by_rule first second h k (same_rule first second h k y z)
    where
      by_rule : (first second : RingFault) → IsRingFault n products first → IsRingFault n products second → rule_of first ≡ rule_of second → first ≡ second
      by_rule (LabelCount m) (LabelCount m') h k e = ap LabelCount (h.0 ∙ back k.0)
      by_rule (LabelRange i) (LabelRange i') h k e = cc (h.1, k.1)
      by_rule (Multiplicity a b c) (Multiplicity a' b' c') h k e = ap (λ t. Multiplicity t.0 t.1 t.2) (one_least Before3 total3 (all_triples n) (is_single products) (a, b, c) (a', b', c') h.1 k.1)
      by_rule (UnitFault a b c) (UnitFault a' b' c') h k e = ap (λ t. UnitFault t.0 t.1 t.2) (one_least Before3 total3 (all_triples n) (keeps_unit products) (a, b, c) (a', b', c') h.1 k.1)
      by_rule (DualFault a) (DualFault a') h k e = ap DualFault (one_least Before1 total1 (all_singles n) (has_dual (stated n products)) a a' h.1 k.1)
      by_rule (NotCommutative a b c) (NotCommutative a' b' c') h k e = ap (λ t. NotCommutative t.0 t.1 t.2) (one_least Before3 total3 (all_triples n) (λ t. is_commutative (stated n products) t.0 t.1 t.2) (a, b, c) (a', b', c') h.1 k.1)
      by_rule (NotAssociative a b c d) (NotAssociative a' b' c' d') h k e = ap (λ t. NotAssociative t.0 t.1 t.2 t.3) (one_least Before4 total4 (all_fours n) (λ t. is_associative (stated n products) t.0 t.1 t.2 t.3) (a, b, c, d) (a', b', c', d') h.1 k.1)
      by_rule OutOfMemory OutOfMemory h k e = refl
      by_rule first second h k e = absurd (omega arith)

  all_pass : (r : Fusion) → IsRingOf n products r → Passes n products 7
  all_pass r h = (h.commutative, subst (λ s. HoldsAtAll (all_fours s.labels) (λ t. is_associative s t.0 t.1 t.2 t.3)) h.is_stated h.rules.associative)

  pub no_fault : (r : Fusion) (fault : RingFault) → IsRingOf n products r → IsRingFault n products fault → fault ≡ OutOfMemory
  no_fault r fault h k = by_fault fault (λ z. let f = at_rule fault z k in f.1 (passes_down 7 (suc (rule_of fault)) (few fault z) (all_pass r h)))
    where
      few : (fault : RingFault) → fault ≢ OutOfMemory → suc (rule_of fault) ≤ 7
      few OutOfMemory z = absurd (z refl)
      few fault z = omega arith

      by_fault : (fault : RingFault) → ¬ (fault ≢ OutOfMemory) → fault ≡ OutOfMemory
      by_fault OutOfMemory z = refl
      by_fault fault z = absurd (z (λ e. cc e))

  pub one_ring : (r s : Fusion) → IsRingOf n products r → IsRingOf n products s → r ≡ s
  one_ring r s h k = h.is_stated ∙ back k.is_stated
