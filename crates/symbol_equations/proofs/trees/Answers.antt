use Rattle.std.proofs.Common.{rules, true, refl, [], ◌∷◌}
use Rattle.std.proofs.lemmas.Result.{IfOk-weaker}
use Rattle.label_tuples.specs.Extended.{kept, singles, pairs, triples, fours, fives}
use Rattle.label_tuples.proofs.Members.{list_of_unit, list_of_more}
use Rattle.fusion_ring.specs.Fusion.{channel}
use Rattle.symbol_equations.proofs.Stages.{is_tree_by_stages}
use Rattle.symbol_equations.proofs.trees.Goals as goal

pub returns : goal.returns
returns c =
    let r = c.args.ring.now in
    let n = c.labels-n.result in
    let with_a = list_of_more singles (λ u. true) _ (tt ∷ []) (tt ∷ []) c.in_ok-found.found.items n list_of_unit refl (c.in_ok-found.ensures (kept singles.make (λ u. true)) (λ t x o h. search rules)) in
    let with_b = list_of_more pairs (λ u. true) _ _ _ c.in_ok-found-2.found.items n with_a c.deref.ensures.value (c.in_ok-found-2.ensures (kept pairs.make (λ u. true)) (λ t x o h. search rules)) in
    let with_e = list_of_more triples (λ u. channel r u.0 u.1 u.2) _ _ _ c.in_ok-found-3.found.items n with_b c.deref-2.ensures.value (c.in_ok-found-3.ensures (kept triples.make (λ u. channel r u.0 u.1 u.2)) (λ t x o h. search rules)) in
    let with_c = list_of_more fours (λ u. true) _ _ _ c.in_ok-found-4.found.items n with_e c.deref-3.ensures.value (c.in_ok-found-4.ensures (kept fours.make (λ u. true)) (λ t x o h. search rules)) in
    IfOk-weaker c.extended-5.result _ _ (λ v e t.
    let all = list_of_more fives (λ u. channel r u.2 u.3 u.4) _ _ _ v.items n with_c c.deref-4.ensures.value (e (kept fives.make (λ u. channel r u.2 u.3 u.4)) (λ t x o h. search rules)) in
    let stages = is_tree_by_stages r n c.labels-n.ensures.count t in
    (λ h. stages.0 ((all t).0 h), λ h. (all t).1 (stages.1 h))) c.extended-5.ensures
