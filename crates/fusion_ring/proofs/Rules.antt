-- The checks of a list of triples, one after the other.
use Rattle.std.specs.Prelude.{◌≡◌, ℕ, ◌≤◌, Bool, not, Option, None, Some, List, position}
use Rattle.std.proofs.Common.{arith, sym as back, subst}
use Rattle.label_tuples.specs.Extended.{all_singles, all_triples, all_fours}
use Rattle.label_tuples.specs.Order.{Before1, Before3, Before4, IsLeastFailing, IsLeastFault}
use Rattle.fusion_ring.specs.declared.Triple.{Triple}
use Rattle.fusion_ring.specs.Fusion.{Fusion}
use Rattle.fusion_ring.specs.Rings.{HoldsAtAll, has_dual, is_commutative, is_associative, IsFusionRing, IsSmallRing}
use Rattle.fusion_ring.specs.Listed.{is_in_range, is_single, keeps_unit, stated}
use Rattle.fusion_ring.specs.Faults.{IsUnital, IsWithDuals, IsCommutative, IsRingOf}
use Rattle.fusion_ring.proofs.Stated.{unit_law, length_stated}

module _ {X : Type 0} (Before : X → X → Type 0) (among : List X) (holds : X → Bool) (o : Option X) (found : IsLeastFault Before among holds o) where
  none_fails : o ≡ None → HoldsAtAll among holds
  none_fails e = subst (λ x. IsLeastFault Before among holds x) e found

  pub least_failing : (t : X) → o ≡ Some t → IsLeastFailing Before among holds t
  least_failing t e = subst (λ x. IsLeastFault Before among holds x) e found

module _ (n : ℕ) (products : List Triple) where
  pub is_unital : 1 ≤ n → n ≤ 12 → position (λ p. not (is_in_range n p)) products ≡ None →
      (repeat : Option (ℕ × ℕ × ℕ)) → IsLeastFault Before3 (all_triples n) (is_single products) repeat → repeat ≡ None →
      (broken : Option (ℕ × ℕ × ℕ)) → IsLeastFault Before3 (all_triples n) (keeps_unit products) broken → broken ≡ None → IsUnital n products
  is_unital some few range repeat r e broken b f = record {
    without_repeats = record { in_range = record { labels = (some, few); range = range }; single = none_fails Before3 (all_triples n) (is_single products) repeat r e };
    unit = none_fails Before3 (all_triples n) (keeps_unit products) broken b f;
  }

  module _ (table : Fusion) (is : table ≡ stated n products) where
    -- what was found of the table is so of the stated ring
    pub dual_fault : (o : Option ℕ) → IsLeastFault Before1 (all_singles table.labels) (has_dual table) o → IsLeastFault Before1 (all_singles n) (has_dual (stated n products)) o
    dual_fault o h = subst (λ (r : Fusion). IsLeastFault Before1 (all_singles r.labels) (has_dual r) o) is h

    pub commutative_fault : (o : Option (ℕ × ℕ × ℕ)) → IsLeastFault Before3 (all_triples table.labels) (λ t. is_commutative table t.0 t.1 t.2) o → IsLeastFault Before3 (all_triples n) (λ t. is_commutative (stated n products) t.0 t.1 t.2) o
    commutative_fault o h = subst (λ (r : Fusion). IsLeastFault Before3 (all_triples r.labels) (λ t. is_commutative r t.0 t.1 t.2) o) is h

    pub associative_fault : (o : Option (ℕ × ℕ × ℕ × ℕ)) → IsLeastFault Before4 (all_fours table.labels) (λ t. is_associative table t.0 t.1 t.2 t.3) o → IsLeastFault Before4 (all_fours n) (λ t. is_associative (stated n products) t.0 t.1 t.2 t.3) o
    associative_fault o h = subst (λ (r : Fusion). IsLeastFault Before4 (all_fours r.labels) (λ t. is_associative r t.0 t.1 t.2 t.3) o) is h

    pub is_with_duals : IsUnital n products → (o : Option ℕ) → IsLeastFault Before1 (all_singles table.labels) (has_dual table) o → o ≡ None → IsWithDuals n products
    is_with_duals u o h e = record { unital = u; duals = none_fails Before1 (all_singles n) (has_dual (stated n products)) o (dual_fault o h) e }

    pub is_commutative_ring : IsWithDuals n products → (o : Option (ℕ × ℕ × ℕ)) → IsLeastFault Before3 (all_triples table.labels) (λ t. is_commutative table t.0 t.1 t.2) o → o ≡ None → IsCommutative n products
    is_commutative_ring d o h e = record { with_duals = d; commutative = none_fails Before3 (all_triples n) (λ t. is_commutative (stated n products) t.0 t.1 t.2) o (commutative_fault o h) e }

    module _ (c : IsCommutative n products) (o : Option (ℕ × ℕ × ℕ × ℕ)) (h : IsLeastFault Before4 (all_fours table.labels) (λ t. is_associative table t.0 t.1 t.2 t.3) o) (e : o ≡ None) where
      rules_hold : IsFusionRing (stated n products)
      rules_hold = record {
        unit = unit_law n products (let p = c.with_duals.unital.without_repeats.in_range.labels.0 in omega (arith, p)) c.with_duals.unital.unit;
        duals = c.with_duals.duals;
        commutative = c.commutative;
        associative = none_fails Before4 (all_fours n) (λ t. is_associative (stated n products) t.0 t.1 t.2 t.3) o (associative_fault o h) e;
      }

      pub is_small : IsSmallRing table
      is_small = subst (λ (r : Fusion). IsSmallRing r) (back is) record {
        some_label = c.with_duals.unital.without_repeats.in_range.labels.0;
        few_labels = c.with_duals.unital.without_repeats.in_range.labels.1;
        table_length = length_stated n products;
        rules = rules_hold;
      }

      pub is_ring_of : IsRingOf n products table
      is_ring_of = record { is_stated = is; commutative = c; rules = subst (λ (r : Fusion). IsFusionRing r) (back is) rules_hold }
