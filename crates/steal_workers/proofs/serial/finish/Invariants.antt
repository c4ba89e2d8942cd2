use Rattle.case_history.specs.History.{IsLeastPending}
use Rattle.legal_history.specs.Work.{work_left}
use Rattle.case_ledger.specs.Board.{GoesOn}
use Rattle.steal_workers.proofs.serial.finish.Given as goal

-- the board has gone on from what it was
abbrev pub invariant-loop-n : goal.invariant-loop-n
invariant-loop-n l = GoesOn IsLeastPending l.fn.board l.board

-- the cases that may still be settled
abbrev pub decreases-loop-n : goal.decreases-loop-n
decreases-loop-n l = work_left l.board.budget l.board.history
