use Rattle.std.proofs.Common.{rules, sym, ◌≡◌, ◌∙◌, true, false}
use Rattle.std.proofs.lemmas.Bool.{true≢false}
use Rattle.pseudo_rem.specs.Steps.{step_contributions}
use Rattle.leaf_cert.specs.Limits.{IsOver}
use Rattle.leaf_cert.specs.Leaves.{IsStoppedReduction}
use Rattle.leaf_cert.proofs.StoppedSteps.{reduction_under, same_test, no_test}
use Rattle.leaf_cert.proofs.ending.is_stopped_reduction.Goals as goal

pub returns-then-not-is_reducible : goal.returns-then-not-is_reducible
returns-then-not-is_reducible c =
    let not_so : c.is_reducible.result ≡ false = search rules in
    no_test _ (λ s. true≢false (sym (c.is_reducible.ensures.1 s.reducible) ∙ not_so))

pub reduce_once-requires : goal.reduce_once-requires
reduce_once-requires c =
    let so : c.is_reducible.result ≡ true = search rules in
    (c.is_reducible.ensures.0 so).can

pub returns-in-Ok : goal.returns-in-Ok
returns-in-Ok c = no_test _ (λ s. reduction_under c.args.units.now c.args.stop.now.q c.args.stop.now.p c.args.stop.now.v _ c.args.limit c.in-Ok.ensures s.stopped)

pub returns : goal.returns
returns c =
    let so : c.is_reducible.result ≡ true = search rules in
    same_test c.is_over.result (IsOver c.args.limit (step_contributions c.args.stop.now.v c.args.stop.now.q c.args.stop.now.p)) (IsStoppedReduction c.args.equations.now c.args.stop.now.v c.args.stop.now.q c.args.stop.now.p (IsOver c.args.limit)) (λ o. record { reducible = c.is_reducible.ensures.0 so; stopped = o }) (λ s. s.stopped) (c.is_over.ensures (step_contributions c.args.stop.now.v c.args.stop.now.q c.args.stop.now.p) c.in-Err.ensures)
