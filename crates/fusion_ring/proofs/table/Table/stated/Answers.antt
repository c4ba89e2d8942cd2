use Rattle.std.proofs.Common.{arith, ◌∙◌, ap, length, take_all}
use Rattle.std.specs.Prelude.{map}
use Rattle.std.proofs.lemmas.List.{length-map}
use Rattle.label_tuples.proofs.Places.{length_triples}
use Rattle.fusion_ring.specs.Listed.{is_product}
use Rattle.fusion_ring.proofs.table.Table.stated.Goals as goal

pub invariant_of-result : goal.invariant_of-result
invariant_of-result c =
    let all = take_all c.loop-t.t-index c.deref-t-items.result.now (omega arith) ∙ c.deref-t-items.ensures.value ∙ c.in_ok-all.ensures in
    ap length (c.loop-t.invariant ∙ ap (λ ts. map (is_product c.args.products.now) ts) all) ∙ length-map _ _ ∙ length_triples c.args.labels
