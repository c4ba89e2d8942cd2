use Rattle.std.proofs.Common.{rules, ◌≡◌, List}
use Rattle.std.specs.Ordering.{is_lt}
use Rattle.std.specs.List.{dedup}
use Rattle.std.proofs.lemmas.Fn.{dedup_same}
use Rattle.std.proofs.lemmas.List.Sorted.{ranks_by, answers_always}
use Rattle.sparse_poly.specs.declared.Term.{Term}
use Rattle.sparse_poly.specs.Order.{poly_cmp}
use Rattle.sparse_poly.specs.OrderLaws.{poly_cmp-IsTotalOrder}
use Rattle.root_system.specs.Ascending.{same_poly}
use Rattle.root_system.proofs.InOrder.{strictly_sorted, same_members}
use Rattle.root_system.proofs.ascending.ascending.Goals as goal

pub returns-clause-sorted : goal.returns-clause-sorted
returns-clause-sorted c =
    let kept : c.dedup_by.new.self.items ≡ dedup same_poly c.sort_by.new.self.items = dedup_same _ same_poly _ (λ x y b f x' y' k. search rules) _ _ c.dedup_by.ensures.filtered in
    strictly_sorted _ _ (c.in_ok-sort_by.ensures.sorted (λ x y. is_lt (poly_cmp x y)) (ranks_by poly_cmp-IsTotalOrder (λ (p : List Term). p)) (answers_always _ _ _ (λ f a r g h. search rules))) kept

pub returns-clause-same : goal.returns-clause-same
returns-clause-same c =
    let kept : c.dedup_by.new.self.items ≡ dedup same_poly c.sort_by.new.self.items = dedup_same _ same_poly _ (λ x y b f x' y' k. search rules) _ _ c.dedup_by.ensures.filtered in
    same_members _ _ _ c.sort_by.ensures.permutation kept
