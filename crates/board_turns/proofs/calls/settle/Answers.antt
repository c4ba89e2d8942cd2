use Rattle.std.specs.declared.option.Option.TheVariants.{Some}
use Rattle.std.proofs.Common.{ap, subst, ◌∙◌}
use Rattle.turn_lock.specs.Lock.{lock_origin, seat_seen}
use Rattle.case_ledger.specs.State.{BoardState}
use Rattle.case_ledger.specs.Origins.{origin_of}
use Rattle.board_turns.specs.Jobs.{Settling, SettlesOnce}
use Rattle.board_turns.proofs.Settled.{settled_later}
use Rattle.board_turns.proofs.calls.settle.Goals as goal

pub returns-clause-ok : goal.returns-clause-ok
returns-clause-ok g c =
    let turn = c.in-Some.ensures.turn in
    let seen = seat_seen c.args.seat.now in
    let left = seat_seen c.with_turn.new.seat in
    let job = c.new-job.ensures ∙ ap (λ (s : BoardState). record { seen = s; n = c.args.n; outcome = Some c.args.outcome }) c.of-seen.ensures in
    let meets = subst (λ (j : Settling). SettlesOnce j turn.found left (Some c.in-Some.reply)) job turn.meets in
    settled_later (lock_origin origin_of c.args.turns.now) seen turn.found left c.args.n c.args.outcome c.in-Some.reply turn.begins meets
