use Rattle.std.specs.Prelude.{All}
use Rattle.std.proofs.Common.{subst}
use Rattle.std.proofs.lemmas.List.Elements.{All-tail}
use Rattle.turn_lock.proofs.Prefixes.{prefix_trans}
use Rattle.board_turns.specs.Seen.{IsBoardSeat}
use Rattle.steal_workers.proofs.pool.join_all.Goals as goal

pub loop-other-preserved : goal.loop-other-preserved
loop-other-preserved c =
    let loop = c.loop-other.invariant in
    let left = subst (All (λ other. IsBoardSeat c.args.turns.now other)) c.in-Some.ensures.steps.0 loop.2 in
    (c.join_seat.ensures.seat, prefix_trans _ _ _ loop.1 c.join_seat.ensures.seen.first, All-tail (λ other. IsBoardSeat c.args.turns.now other) c.in-Some.other _ left)
