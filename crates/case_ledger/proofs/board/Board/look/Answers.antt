use Rattle.std.specs.declared.option.Option.TheVariants.{Some}
use Rattle.std.proofs.Common.{sym, ◌∙◌, ap}
use Rattle.case_ledger.proofs.Steps.{no_node, settled_node, pending_node}
use Rattle.case_ledger.proofs.board.Board.look.Goals as goal

pub returns-in-None : goal.returns-in-None
returns-in-None c = rw (← c.self.view_is) (no_node _ _ _ _ _ c.args.n c.self.invariant.agrees (sym c.in-None.ensures))

pub returns-in-Some-Settled : goal.returns-in-Some-Settled
returns-in-Some-Settled c = rw (← c.self.view_is) (settled_node _ _ _ _ _ c.args.n c.in-Some-Settled.at c.self.invariant.agrees (sym c.in-Some-Settled.ensures ∙ ap Some c.in-Some-Settled.field-0-is))

pub returns-in_ok-another-in-Some-Pending : goal.returns-in_ok-another-in-Some-Pending
returns-in_ok-another-in-Some-Pending c =
    let p = pending_node _ _ _ _ _ c.args.n c.in-Some-Pending.case c.self.invariant.agrees (sym c.in-Some-Pending.ensures ∙ ap Some c.in-Some-Pending.field-0-is) in
    rw (← c.self.view_is, c.in_ok-another-in-Some-Pending.ensures) (record { pending = p.0; is = p.1 })
