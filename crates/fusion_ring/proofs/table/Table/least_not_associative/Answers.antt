use Rattle.std.proofs.Common.{rules, ◌∙◌, ap, ℕ, Bool}
use Rattle.label_tuples.specs.Extended.{all_fours}
use Rattle.label_tuples.proofs.Least.{least_four}
use Rattle.fusion_ring.specs.Rings.{is_associative}
use Rattle.fusion_ring.proofs.table.Table.least_not_associative.Goals as goal

pub returns : goal.returns
returns c =
    let r = c.args.self.now in
    let holds : ℕ × ℕ × ℕ × ℕ → Bool = λ t. is_associative r t.0 t.1 t.2 t.3 in
    least_four r.labels holds c.deref.result.now c.first_fault.result (c.deref.ensures.value ∙ c.in_ok-all.ensures ∙ ap all_fours c.labels.ensures) (c.first_fault.ensures holds (λ t b h. search rules))
