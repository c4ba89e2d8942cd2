use Rattle.std.proofs.Common.{rules, ◌∙◌, ap}
use Rattle.label_tuples.specs.Extended.{all_singles}
use Rattle.label_tuples.proofs.Least.{least_single}
use Rattle.fusion_ring.specs.Rings.{has_dual}
use Rattle.fusion_ring.proofs.table.Table.least_without_dual.Goals as goal

pub returns : goal.returns
returns c =
    let r = c.args.self.now in
    least_single r.labels (has_dual r) c.deref.result.now c.first_fault.result (c.deref.ensures.value ∙ c.in_ok-all.ensures ∙ ap all_singles c.labels.ensures) (c.first_fault.ensures (has_dual r) (λ t b h. search rules))
