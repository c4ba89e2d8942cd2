use Rattle.case_ledger.proofs.Steps.{least_node}
use Rattle.case_ledger.proofs.board.Board.least_pending.Goals as goal

pub returns : goal.returns
returns c = rw (← c.self.view_is) (least_node _ _ _ _ _ c.first_pending.result c.self.invariant.agrees c.first_pending.ensures)
