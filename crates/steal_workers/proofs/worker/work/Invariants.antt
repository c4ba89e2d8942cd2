use Rattle.std.specs.Prelude.{◌<◌}
use mathlib.Core.List.{IsPrefix}
use Rattle.turn_lock.specs.Lock.{seat_seen}
use Rattle.board_turns.specs.Seen.{seen_board, IsBoardSeat}
use Rattle.board_turns.specs.Jobs.{AreOfBoard}
use Rattle.steal_workers.proofs.worker.work.Given as goal

-- the seat has seen more, and the runner has the root and the budget of the lock
abbrev pub invariant-loop : goal.invariant-loop
invariant-loop g l = (goal.iterator-loop g).can_next l.iterator' × (goal.iterator-loop g).is_finite l.iterator' × IsBoardSeat l.turns l.seat × IsPrefix (seat_seen l.fn.seat) (seat_seen l.seat) × (l.idle_sweeps < 1024) × AreOfBoard (seen_board l.turns l.seat) l.runner.root.now
