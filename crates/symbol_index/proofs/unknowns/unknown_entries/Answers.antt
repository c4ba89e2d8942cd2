use Rattle.std.proofs.Common.{rules, true, ◌∙◌}
use Rattle.std.proofs.lemmas.Result.{IfOk-weaker}
use Rattle.label_tuples.specs.Extended.{kept, fours, fives, sixes, all_triples, all_fours, all_fives}
use Rattle.label_tuples.proofs.Filtered.{filtered_more}
use Rattle.symbol_index.specs.Sides.{is_on, opposite}
use Rattle.symbol_index.specs.Appended.{is_nontrivial}
use Rattle.symbol_index.proofs.Stages.{by_stages}
use Rattle.symbol_index.proofs.unknowns.unknown_entries.Goals as goal

pub returns : goal.returns
returns k =
    let r = k.args.ring.now in
    let s = k.args.first in
    let n = k.labels-n.result in
    let with_d = filtered_more fours is_nontrivial (λ u. true) (all_triples n) _ _ _ n k.in_ok-found.ensures k.deref.ensures.value (k.in_ok-found-2.ensures (kept fours.make (λ u. true)) (λ t x o h. search rules)) in
    let with_5 = filtered_more fives _ (λ u. is_on s r (u.0, u.1, u.2, u.3) u.4) (all_fours n) _ _ _ n with_d k.deref-2.ensures.value (k.in_ok-found-3.ensures (kept fives.make (λ u. is_on s r (u.0, u.1, u.2, u.3) u.4)) (λ t x o h. search rules)) in
    IfOk-weaker k.extended-3.result _ _ (λ v q.
    let all = filtered_more sixes _ (λ u. is_on (opposite s) r (u.0, u.1, u.2, u.3) u.5) (all_fives n) _ _ v.items n with_5 k.deref-3.ensures.value (q (kept sixes.make (λ u. is_on (opposite s) r (u.0, u.1, u.2, u.3) u.5)) (λ t x o h. search rules)) in
    all ∙ by_stages r n k.labels-n.ensures.count s) k.extended-3.ensures
