use Rattle.std.proofs.Common.{rules, ◌∙◌, sym as back, ap, ℕ, Bool, ◌&&◌, not, nat_eq}
use Rattle.std.specs.Prelude.{count_by}
use Rattle.label_tuples.specs.Extended.{below}
use Rattle.fusion_ring.specs.Fusion.{channel}
use Rattle.fusion_ring.proofs.table.Table.has_dual.Goals as goal

pub returns-then-duals-eq1 : goal.returns-then-duals-eq1
returns-then-duals-eq1 k =
    let r = k.args.self.now in
    let two_way : ℕ → Bool = λ b. channel r k.args.a b 0 in
    let one_way : ℕ → Bool = λ b. channel r k.args.a b 0 && not (channel r b k.args.a 0) in
    let duals = k.count_labels-duals.ensures two_way (λ x b h. search rules) ∙ ap (λ n. count_by two_way (below n)) k.labels.ensures in
    let others = k.count_labels-one_way.ensures one_way (λ x b h. search rules) ∙ ap (λ n. count_by one_way (below n)) k.labels-2.ensures in
    ap (λ n. nat_eq n 0) others
    ∙ back (ap (λ b. b && nat_eq (count_by one_way (below r.labels)) 0) (ap (λ n. nat_eq n 1) (back duals ∙ k.if-duals-eq1.true)))
