use Rattle.std.proofs.Common.{rules, true, not, ◌==◌, refl, [], ◌∷◌, ◌∙◌}
use Rattle.std.proofs.lemmas.Result.{IfOk-weaker}
use Rattle.label_tuples.specs.Extended.{kept, singles, pairs, triples, all_singles, all_pairs}
use Rattle.label_tuples.proofs.Filtered.{filtered_more}
use Rattle.fusion_ring.specs.Fusion.{channel}
use Rattle.symbol_index.proofs.Stages.{r_by_stages}
use Rattle.symbol_index.proofs.unknowns.unknown_r.Goals as goal

pub returns : goal.returns
returns k =
    let r = k.args.ring.now in
    let n = k.labels-n.result in
    let a = filtered_more singles (λ _. true) (λ u. not (u == 0)) (tt ∷ []) _ _ _ n refl refl (k.in_ok-found.ensures (kept singles.make (λ u. not (u == 0))) (λ t x o h. search rules)) in
    let b = filtered_more pairs _ (λ u. not (u.1 == 0)) (all_singles n) _ _ _ n a k.deref.ensures.value (k.in_ok-found-2.ensures (kept pairs.make (λ u. not (u.1 == 0))) (λ t x o h. search rules)) in
    IfOk-weaker k.extended-3.result _ _ (λ v q.
    let all = filtered_more triples _ (λ u. channel r u.0 u.1 u.2) (all_pairs n) _ _ v.items n b k.deref-2.ensures.value (q (kept triples.make (λ u. channel r u.0 u.1 u.2)) (λ t x o h. search rules)) in
    all ∙ r_by_stages r n k.labels-n.ensures.count) k.extended-3.ensures
