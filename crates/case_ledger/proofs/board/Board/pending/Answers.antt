use Rattle.std.proofs.Common.{◌∙◌}
use Rattle.case_ledger.proofs.Steps.{count_pending}
use Rattle.case_ledger.proofs.board.Board.pending.Goals as goal

pub returns : goal.returns
returns c = rw (← c.self.view_is) (c.pending.ensures ∙ count_pending _ _ _ _ _ c.self.invariant.agrees)
