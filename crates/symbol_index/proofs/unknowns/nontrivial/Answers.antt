use Rattle.std.proofs.Common.{rules, true, not, ◌==◌, refl, [], ◌∷◌, ◌∙◌}
use Rattle.std.proofs.lemmas.Result.{IfOk-weaker}
use Rattle.std.proofs.lemmas.List.Elements.{filter_agree}
use Rattle.label_tuples.specs.Extended.{kept, singles, pairs, triples, all_singles, all_pairs, all_triples}
use Rattle.label_tuples.proofs.Filtered.{filtered_more}
use Rattle.symbol_index.specs.Appended.{is_nontrivial}
use Rattle.symbol_index.proofs.unknowns.nontrivial.Goals as goal

pub returns : goal.returns
returns k =
    let n = k.args.n in
    let a = filtered_more singles (λ _. true) (λ u. not (u == 0)) (tt ∷ []) _ _ _ n refl refl (k.in_ok-found.ensures (kept singles.make (λ u. not (u == 0))) (λ t x o h. search rules)) in
    let b = filtered_more pairs _ (λ u. not (u.1 == 0)) (all_singles n) _ _ _ n a k.deref.ensures.value (k.in_ok-found-2.ensures (kept pairs.make (λ u. not (u.1 == 0))) (λ t x o h. search rules)) in
    IfOk-weaker k.extended-3.result _ _ (λ v q.
    let all = filtered_more triples _ (λ u. not (u.2 == 0)) (all_pairs n) _ _ v.items n b k.deref-2.ensures.value (q (kept triples.make (λ u. not (u.2 == 0))) (λ t x o h. search rules)) in
    all ∙ filter_agree _ is_nontrivial (λ t. refl) (all_triples n)) k.extended-3.ensures
