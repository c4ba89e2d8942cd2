use Rattle.std.proofs.Common.{rules, ◌∙◌}
use Rattle.std.specs.Prelude.{Contains}
use Rattle.std.proofs.lemmas.Result.{IfOk-weaker}
use Rattle.label_tuples.specs.Extended.{kept, fives, all_fours}
use Rattle.label_tuples.proofs.Members.{list_of_more}
use Rattle.symbol_index.specs.Sides.{is_on}
use Rattle.gauge_fix.specs.Inverses.{matrix}
use Rattle.gauge_fix.proofs.Stages.{inverse_tuples, on_by_stages}
use Rattle.gauge_fix.proofs.inverse.entry_labels.Goals as goal

pub returns : goal.returns
returns c =
    let r = c.args.ring.now in
    let n = c.labels-n.result in
    let with_channel = list_of_more fives (λ u. is_on c.args.side r (u.0, u.1, u.2, u.3) u.4) (Contains (all_fours n)) (all_fours n) c.deref.result.now c.in_ok-found-2.found.items n (λ x. (λ h. h, λ h. h)) (c.deref.ensures.value ∙ c.in_ok-found.ensures) (c.in_ok-found-2.ensures (kept fives.make (λ u. is_on c.args.side r (u.0, u.1, u.2, u.3) u.4)) (λ t x o h. search rules)) in
    IfOk-weaker c.extended-2.result _ _
    (λ v e at.
    let all = list_of_more inverse_tuples (λ u. is_on c.args.side r (matrix u) u.other) _ _ _ v.items n with_channel c.deref-2.ensures.value (e (kept inverse_tuples.make (λ u. is_on c.args.side r (matrix u) u.other)) (λ t x o h. search rules)) in
    let stages = on_by_stages c.args.side r n c.labels-n.ensures.count at in
    (λ h. stages.0 ((all at).0 h), λ h. (all at).1 (stages.1 h)))
    c.extended-2.ensures
