use Rattle.std.specs.Prelude.{◌≡◌, ◌≤◌, ◌+◌, All}
use Rattle.std.specs.Vec.{vec_len, vec_capacity}
use Rattle.std.specs.Vec.Iter.{into_iter_len}
use Rattle.turn_lock.specs.Lock.{seat_seen}
use Rattle.board_turns.specs.Seen.{IsBoardSeat}
use Rattle.steal_workers.proofs.pool.seat_all.Given as goal

-- the seats given so far are of this lock, and there is room for those that are left
abbrev pub invariant-loop-own : goal.invariant-loop-own
invariant-loop-own l = IsBoardSeat l.turns l.seat × (seat_seen l.seat ≡ seat_seen l.fn.seat) × All (λ one. IsBoardSeat l.turns one.seat) l.seated.items × (vec_len l.seated + into_iter_len l.own-iterator ≤ vec_capacity l.seated)
