use Rattle.std.proofs.Common.{sym, subst, arith}
use Rattle.case_rules.specs.declared.outcome.Outcome.TheVariants.{Dead as dead_end}
use Rattle.case_history.specs.History.{IsPending}
use Rattle.legal_history.specs.Legal.{EndsLiving}
use Rattle.case_ledger.specs.State.{BoardState}
use Rattle.case_ledger.proofs.Steps.{node_of_pending}
use Rattle.case_ledger.proofs.KeptSteps.{kept_refute, refuted_board}
use Rattle.case_ledger.proofs.board.Board.refute.Goals as goal

pub settle-requires : goal.settle-requires
settle-requires c = node_of_pending _ _ _ _ _ c.args.n c.self.invariant.agrees (subst (λ (b : BoardState). IsPending b.history c.args.n) (sym c.self.view_is) c.requires.pending)

pub invariant_of-self-2 : goal.invariant_of-self-2
invariant_of-self-2 c = rw (c.push_reserved-2.ensures.items, c.push_reserved.ensures.items, c.settle.ensures, c.in-Ok.ensures.ok.1, c.reserve.ensures.items)
    (kept_refute _ _ _ _ _ c.args.n c.in-Ok.k c.len.result c.args.refutation c.self.invariant (subst (λ (b : BoardState). IsPending b.history c.args.n) (sym c.self.view_is) c.requires.pending)
    (subst (λ (b : BoardState). EndsLiving b.root.equations b.budget b.history c.args.n (dead_end c.args.refutation)) (sym c.self.view_is) c.requires.ends) c.in-Ok.ensures.ok.0 (omega (arith, c.len.ensures, c.push_reserved.ensures.len, c.reserve.ensures.len)))

pub returns-clause-ok : goal.returns-clause-ok
returns-clause-ok c = rw (← c.self.view_is, c.push_reserved-2.ensures.items, c.push_reserved.ensures.items, c.in-Ok.ensures.ok.1, c.reserve.ensures.items)
    (refuted_board _ _ c.self.inside.entries.items _ c.args.n c.in-Ok.k c.args.refutation c.self.invariant.posted c.in-Ok.ensures.ok.0)
