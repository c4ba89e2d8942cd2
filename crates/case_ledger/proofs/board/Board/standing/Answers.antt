use Rattle.std.specs.declared.option.Option.TheVariants.{Some}
use Rattle.std.proofs.Common.{sym, ◌∙◌, ap}
use Rattle.case_ledger.proofs.Steps.{no_node, settled_node, covered_node, uncovered_node}
use Rattle.case_ledger.proofs.board.Board.standing.Goals as goal

pub returns-in-None : goal.returns-in-None
returns-in-None c = rw (← c.self.view_is) (no_node _ _ _ _ _ c.args.n c.self.invariant.agrees (sym c.in-None.ensures))

pub returns-in-Some-Settled : goal.returns-in-Some-Settled
returns-in-Some-Settled c = rw (← c.self.view_is) (settled_node _ _ _ _ _ c.args.n c.in-Some-Settled.at c.self.invariant.agrees (sym c.in-Some-Settled.ensures ∙ ap Some c.in-Some-Settled.field-0-is))

pub returns-in-Some : goal.returns-in-Some
returns-in-Some c = rw (← c.self.view_is) (covered_node _ _ _ _ _ c.args.n c.in-Some.k c.in-Some-Pending.case c.self.invariant.agrees
    (sym c.in-Some-Pending.ensures ∙ ap Some c.in-Some-Pending.field-0-is)
    (rw (c.in-Some.is, c.as_slice.ensures, c.decisions.ensures, c.case.ensures) at c.in_ok-k-in-Some-Pending.ensures))

pub returns-in-None-2 : goal.returns-in-None-2
returns-in-None-2 c = rw (← c.self.view_is) (uncovered_node _ _ _ _ _ c.args.n c.in-Some-Pending.case c.self.invariant.agrees
    (sym c.in-Some-Pending.ensures ∙ ap Some c.in-Some-Pending.field-0-is)
    (rw (c.in-None-2.is, c.as_slice.ensures, c.decisions.ensures, c.case.ensures) at c.in_ok-k-in-Some-Pending.ensures))
