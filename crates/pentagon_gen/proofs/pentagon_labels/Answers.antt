use Rattle.std.proofs.Common.{rules, true, IsTrue, ◌&&◌}
use Rattle.std.proofs.lemmas.Result.{IfOk-weaker}
use Rattle.label_tuples.specs.Extended.{kept, sixes, sevens, eights}
use Rattle.label_tuples.proofs.Members.{list_of_more}
use Rattle.fusion_ring.specs.Fusion.{channel}
use Rattle.symbol_equations.specs.Trees.{is_tree}
use Rattle.pentagon_gen.proofs.Stages.{nines, is_pentagon_by_stages}
use Rattle.pentagon_gen.proofs.pentagon_labels.Goals as goal

pub returns : goal.returns
returns c =
    let r = c.args.ring.now in
    let n = c.labels-n.result in
    let with_d = list_of_more sixes (λ u. true) (λ t. IsTrue (is_tree r t)) _ _ c.in_ok-found-2.found.items n c.in_ok-found.ensures c.deref.ensures.value (c.in_ok-found-2.ensures (kept sixes.make (λ u. true)) (λ t x o h. search rules)) in
    let with_e = list_of_more sevens (λ u. channel r u.4 u.5 u.6) _ _ _ c.in_ok-found-3.found.items n with_d c.deref-2.ensures.value (c.in_ok-found-3.ensures (kept sevens.make (λ u. channel r u.4 u.5 u.6)) (λ t x o h. search rules)) in
    let with_l = list_of_more eights (λ u. channel r u.3 u.5 u.7) _ _ _ c.in_ok-found-4.found.items n with_e c.deref-3.ensures.value (c.in_ok-found-4.ensures (kept eights.make (λ u. channel r u.3 u.5 u.7)) (λ t x o h. search rules)) in
    IfOk-weaker c.extended-4.result _ _ (λ v e at.
    let all = list_of_more nines (λ u. channel r u.b u.l u.k && channel r u.a u.k u.e) _ _ _ v.items n with_l c.deref-4.ensures.value (e (kept nines.make (λ u. channel r u.b u.l u.k && channel r u.a u.k u.e)) (λ t x o h. search rules)) in
    let stages = is_pentagon_by_stages r n c.labels-n.ensures.count at in
    (λ h. stages.0 ((all at).0 h), λ h. (all at).1 (stages.1 h))) c.extended-4.ensures
