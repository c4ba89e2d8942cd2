use Rattle.std.proofs.Common.{rules, ◌∙◌}
use Rattle.label_tuples.proofs.Least.{least_triple}
use Rattle.fusion_ring.specs.Listed.{keeps_unit}
use Rattle.fusion_ring.proofs.products.least_unit_fault.Goals as goal

pub returns : goal.returns
returns c =
    let holds = keeps_unit c.args.products.now in
    least_triple c.args.labels holds c.deref.result.now c.first_fault.result (c.deref.ensures.value ∙ c.in_ok-all.ensures) (c.first_fault.ensures holds (λ t b h. search rules))
