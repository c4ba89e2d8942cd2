use Rattle.std.specs.declared.option.Option.TheVariants.{Some}
use Rattle.std.proofs.Common.{arith, sym, ◌∙◌, ap}
use Rattle.std.proofs.lemmas.Option.{none-some}
use Rattle.case_ledger.proofs.Steps.{no_node, settled_node, pending_node}
use Rattle.case_ledger.proofs.board.Board.pending_case.Goals as goal

pub returns-in-Some-Pending : goal.returns-in-Some-Pending
returns-in-Some-Pending c =
    let p = pending_node _ _ _ _ _ c.args.n c.in-Some-Pending.case c.self.invariant.agrees (sym c.in-Some-Pending.ensures ∙ ap Some c.in-Some-Pending.field-0-is) in
    rw (← c.self.view_is, c.case.ensures) (record { pending = p.0; is = p.1 })

pub returns-in-Some-Settled : goal.returns-in-Some-Settled
returns-in-Some-Settled c =
    let s = settled_node _ _ _ _ _ c.args.n c.in-Some-Settled.field-0-0 c.self.invariant.agrees (sym c.in-Some-Settled.ensures ∙ ap Some c.in-Some-Settled.field-0-is) in
    rw (← c.self.view_is) (λ p. none-some _ (sym p.unsettled ∙ s.is))

pub returns-in-None : goal.returns-in-None
returns-in-None c =
    let past = no_node _ _ _ _ _ c.args.n c.self.invariant.agrees (sym c.in-None.ensures) in
    rw (← c.self.view_is) (λ p. omega (arith, p.made, past))
