-- The board under a lock, as a seat has seen it.
use Rattle.turn_lock.specs.declared.kept.Kept.{Ghosts}
use Rattle.turn_lock.specs.declared.turns.Turns.{Turns}
use Rattle.turn_lock.specs.declared.turns.TurnSeat.{TurnSeat}
use Rattle.turn_lock.specs.Lock.{lock_origin, seat_seen, IsSeatOf}
use Rattle.leaf_cert.specs.declared.certificate.RawEntry.{RawEntry}
use Rattle.case_ledger.specs.State.{BoardState}
use Rattle.case_ledger.specs.Origins.{origin_of, board_after}
use Rattle.case_ledger.specs.declared.kept_board.BoardOrigin.{BoardOrigin}

module _ {g : Ghosts BoardState RawEntry BoardOrigin} where
  -- the root and the budget of the lock, and the history that the seat has seen
  abbrev pub seen_board : Turns BoardState RawEntry BoardOrigin → TurnSeat BoardState RawEntry BoardOrigin g → BoardState
  seen_board t s = board_after (lock_origin origin_of t) (seat_seen s)

  -- the seat is of this lock
  abbrev pub IsBoardSeat : Turns BoardState RawEntry BoardOrigin → TurnSeat BoardState RawEntry BoardOrigin g → Type 0
  IsBoardSeat t s = IsSeatOf origin_of t s
