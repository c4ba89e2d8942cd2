use Rattle.std.proofs.Common.{rules, ◌∙◌, ap, ℕ, Bool, ◌&&◌, nat_eq}
use Rattle.std.specs.Prelude.{count_by}
use Rattle.label_tuples.specs.Extended.{below}
use Rattle.fusion_ring.specs.Fusion.{channel}
use Rattle.fusion_ring.proofs.table.Table.is_associative.Goals as goal

pub returns : goal.returns
returns k =
    let r = k.args.self.now in
    let left : ℕ → Bool = λ e. channel r k.args.a k.args.b e && channel r e k.args.c k.args.d in
    let right : ℕ → Bool = λ f. channel r k.args.b k.args.c f && channel r k.args.a f k.args.d in
    ap (λ n. nat_eq n k.count_labels-right.result) (k.count_labels-left.ensures left (λ x b h. search rules) ∙ ap (λ n. count_by left (below n)) k.labels.ensures)
    ∙ ap (λ n. nat_eq (count_by left (below r.labels)) n) (k.count_labels-right.ensures right (λ x b h. search rules) ∙ ap (λ n. count_by right (below n)) k.labels-2.ensures)
