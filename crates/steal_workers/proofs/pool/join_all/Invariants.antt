use Rattle.std.specs.Prelude.{All}
use Rattle.std.specs.Vec.Iter.{into_iter_items}
use mathlib.Core.List.{IsPrefix}
use Rattle.turn_lock.specs.Lock.{seat_seen}
use Rattle.board_turns.specs.Seen.{IsBoardSeat}
use Rattle.steal_workers.proofs.pool.join_all.Given as goal

-- the seat has seen more, and the seats that are left are of this lock
abbrev pub invariant-loop-other : goal.invariant-loop-other
invariant-loop-other l = IsBoardSeat l.turns l.seat × IsPrefix (seat_seen l.fn.seat) (seat_seen l.seat) × All (λ other. IsBoardSeat l.turns other) (into_iter_items l.other-iterator)
