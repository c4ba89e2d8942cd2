use Rattle.std.proofs.Common.{rules, IsTrue, ◌&&◌}
use Rattle.std.proofs.lemmas.Result.{IfOk-weaker}
use Rattle.label_tuples.specs.Extended.{kept}
use Rattle.label_tuples.proofs.Members.{list_of_more}
use Rattle.fusion_ring.specs.Fusion.{channel}
use Rattle.symbol_equations.specs.Trees.{is_tree}
use Rattle.hexagon_gen.proofs.Stages.{hexagon_tuples, is_hexagon_by_stages}
use Rattle.hexagon_gen.proofs.hexagon_labels.Goals as goal

pub returns : goal.returns
returns c =
    let r = c.args.ring.now in
    let n = c.labels.result in
    IfOk-weaker c.extended.result _ _ (λ v e at.
    let all = list_of_more hexagon_tuples (λ u. channel r u.c u.b u.g && channel r u.a u.g u.d) (λ t. IsTrue (is_tree r t)) c.in_ok-trees.trees.items c.deref.result.now v.items n c.in_ok-trees.ensures c.deref.ensures.value (e (kept hexagon_tuples.make (λ u. channel r u.c u.b u.g && channel r u.a u.g u.d)) (λ t x o h. search rules)) in
    let stages = is_hexagon_by_stages r n c.labels.ensures.count at in
    (λ h. stages.0 ((all at).0 h), λ h. (all at).1 (stages.1 h))) c.extended.ensures
