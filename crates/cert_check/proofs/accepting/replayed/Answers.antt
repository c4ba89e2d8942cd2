use Rattle.std.specs.Prelude.{take, reverse}
use Rattle.std.proofs.lemmas.Result.{err_from_is_err_and}
use Rattle.cert_check.proofs.Walking.{entry_stop}
use Rattle.cert_check.proofs.accepting.replayed.Goals as goal

pub loop-entry-init : goal.loop-entry-init
loop-entry-init c = c.in_ok-replay.ensures c.args.root.now

pub returns-in_err-enter : goal.returns-in_err-enter
returns-in_err-enter c =
    let p = err_from_is_err_and c.from_residual-in_err-enter.result c.from_residual-in_err-enter.ensures.1 in
    let history = reverse (take c.loop-entry.entry-index c.args.entries.now) in
    rw (p.1, p.2) (entry_stop c.args.root.now c.args.entries.now c.loop-entry.entry-index c.entry-item.result _ c.loop-entry-test.true c.entry-item.is c.loop-entry.invariant.replays (c.in_err-enter.ensures history c.loop-entry.invariant))
