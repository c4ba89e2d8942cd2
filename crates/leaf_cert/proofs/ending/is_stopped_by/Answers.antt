use Rattle.std.proofs.Common.{rules, sym, ◌≡◌, ◌∙◌, true, false}
use Rattle.std.proofs.lemmas.Bool.{true≢false}
use Rattle.pseudo_rem.specs.Steps.{tail_contributions}
use Rattle.leaf_cert.specs.Limits.{IsOver}
use Rattle.leaf_cert.proofs.StoppedSteps.{tail_under, same_test, no_test}
use Rattle.leaf_cert.proofs.ending.is_stopped_by.Goals as goal

pub returns-then-not-is_same : goal.returns-then-not-is_same
returns-then-not-is_same c =
    let not_so : c.is_same.result ≡ false = search rules in
    no_test _ (λ s. true≢false (sym (c.is_same.ensures.1 s.0) ∙ not_so))

pub returns-in-Ok : goal.returns-in-Ok
returns-in-Ok c = no_test _ (λ s. tail_under c.args.units.now c.args.stop.now.v c.args.stop.now.q c.args.initial.now.factor c.args.initial.now.rest _ c.args.limit c.in-Ok.ensures s.1)

pub returns : goal.returns
returns c =
    let so : c.is_same.result ≡ true = search rules in
    same_test c.is_over.result (IsOver c.args.limit (tail_contributions c.args.stop.now.v c.args.stop.now.q c.args.initial.now.factor c.args.initial.now.rest)) _ (λ o. (c.is_same.ensures.0 so, o)) (λ s. s.1) (c.is_over.ensures (tail_contributions c.args.stop.now.v c.args.stop.now.q c.args.initial.now.factor c.args.initial.now.rest) c.in-Err.ensures)
