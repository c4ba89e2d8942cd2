use Rattle.std.proofs.Common.{arith, sym as back, ◌∙◌}
use Rattle.label_tuples.specs.Extended.{all_singles, all_triples, all_fours}
use Rattle.label_tuples.specs.Order.{Before1, Before3, Before4}
use Rattle.fusion_ring.specs.Rings.{has_dual, is_commutative, is_associative}
use Rattle.fusion_ring.specs.Listed.{stated}
use Rattle.fusion_ring.proofs.Rules.{least_failing, is_unital, dual_fault, commutative_fault, associative_fault, is_with_duals, is_commutative_ring, is_small, is_ring_of}
use Rattle.fusion_ring.proofs.Ring.new.Goals as goal

pub returns-in-Some-4 : goal.returns-in-Some-4
returns-in-Some-4 k =
    let n = k.args.labels in
    let products = k.args.products.now in
    let u = is_unital n products (omega arith) (omega arith) (back k.first_outside.ensures ∙ k.in_default.is) k.in_ok-a.field-0 k.in_ok-a.ensures k.in_default-2.is k.in_ok-a-2.field-0 k.in_ok-a-2.ensures k.in_default-3.is in
    (u, least_failing Before1 (all_singles n) (has_dual (stated n products)) k.in_ok-a-3.field-0 (dual_fault n products k.in_ok-table.table k.in_ok-table.ensures k.in_ok-a-3.field-0 k.in_ok-a-3.ensures) k.in-Some-4.a k.in-Some-4.is)

pub returns-in-Some-5 : goal.returns-in-Some-5
returns-in-Some-5 k =
    let n = k.args.labels in
    let products = k.args.products.now in
    let u = is_unital n products (omega arith) (omega arith) (back k.first_outside.ensures ∙ k.in_default.is) k.in_ok-a.field-0 k.in_ok-a.ensures k.in_default-2.is k.in_ok-a-2.field-0 k.in_ok-a-2.ensures k.in_default-3.is in
    let d = is_with_duals n products k.in_ok-table.table k.in_ok-table.ensures u k.in_ok-a-3.field-0 k.in_ok-a-3.ensures k.in_default-4.is in
    (d, least_failing Before3 (all_triples n) (λ t. is_commutative (stated n products) t.0 t.1 t.2) k.in_ok-a-4.field-0 (commutative_fault n products k.in_ok-table.table k.in_ok-table.ensures k.in_ok-a-4.field-0 k.in_ok-a-4.ensures) (k.in-Some-5.a, k.in-Some-5.b, k.in-Some-5.c) k.in-Some-5.is)

pub returns-in-Some-6 : goal.returns-in-Some-6
returns-in-Some-6 k =
    let n = k.args.labels in
    let products = k.args.products.now in
    let u = is_unital n products (omega arith) (omega arith) (back k.first_outside.ensures ∙ k.in_default.is) k.in_ok-a.field-0 k.in_ok-a.ensures k.in_default-2.is k.in_ok-a-2.field-0 k.in_ok-a-2.ensures k.in_default-3.is in
    let d = is_with_duals n products k.in_ok-table.table k.in_ok-table.ensures u k.in_ok-a-3.field-0 k.in_ok-a-3.ensures k.in_default-4.is in
    let c = is_commutative_ring n products k.in_ok-table.table k.in_ok-table.ensures d k.in_ok-a-4.field-0 k.in_ok-a-4.ensures k.in_default-5.is in
    (c, least_failing Before4 (all_fours n) (λ t. is_associative (stated n products) t.0 t.1 t.2 t.3) k.in_ok-a-5.field-0 (associative_fault n products k.in_ok-table.table k.in_ok-table.ensures k.in_ok-a-5.field-0 k.in_ok-a-5.ensures) (k.in-Some-6.a, k.in-Some-6.b, k.in-Some-6.c, k.in-Some-6.d) k.in-Some-6.is)

pub invariant_of-result : goal.invariant_of-result
invariant_of-result k =
    let n = k.args.labels in
    let products = k.args.products.now in
    let u = is_unital n products (omega arith) (omega arith) (back k.first_outside.ensures ∙ k.in_default.is) k.in_ok-a.field-0 k.in_ok-a.ensures k.in_default-2.is k.in_ok-a-2.field-0 k.in_ok-a-2.ensures k.in_default-3.is in
    let d = is_with_duals n products k.in_ok-table.table k.in_ok-table.ensures u k.in_ok-a-3.field-0 k.in_ok-a-3.ensures k.in_default-4.is in
    let c = is_commutative_ring n products k.in_ok-table.table k.in_ok-table.ensures d k.in_ok-a-4.field-0 k.in_ok-a-4.ensures k.in_default-5.is in
    is_small n products k.in_ok-table.table k.in_ok-table.ensures c k.in_ok-a-5.field-0 k.in_ok-a-5.ensures k.in_default-6.is

pub returns : goal.returns
returns k =
    let n = k.args.labels in
    let products = k.args.products.now in
    let u = is_unital n products (omega arith) (omega arith) (back k.first_outside.ensures ∙ k.in_default.is) k.in_ok-a.field-0 k.in_ok-a.ensures k.in_default-2.is k.in_ok-a-2.field-0 k.in_ok-a-2.ensures k.in_default-3.is in
    let d = is_with_duals n products k.in_ok-table.table k.in_ok-table.ensures u k.in_ok-a-3.field-0 k.in_ok-a-3.ensures k.in_default-4.is in
    let c = is_commutative_ring n products k.in_ok-table.table k.in_ok-table.ensures d k.in_ok-a-4.field-0 k.in_ok-a-4.ensures k.in_default-5.is in
    is_ring_of n products k.in_ok-table.table k.in_ok-table.ensures c k.in_ok-a-5.field-0 k.in_ok-a-5.ensures k.in_default-6.is
