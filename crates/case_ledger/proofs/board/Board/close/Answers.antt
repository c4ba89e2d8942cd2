use Rattle.std.proofs.Common.{sym, subst, arith}
use Rattle.refute_store.specs.Live.{IsLeastLiveWithin}
use Rattle.case_history.specs.History.{IsPending, patterns, decisions_of}
use Rattle.case_ledger.specs.State.{BoardState}
use Rattle.case_ledger.proofs.Steps.{node_of_pending}
use Rattle.case_ledger.proofs.KeptSteps.{kept_close}
use Rattle.case_ledger.proofs.board.Board.close.Goals as goal

pub settle-requires : goal.settle-requires
settle-requires c = node_of_pending _ _ _ _ _ c.args.n c.self.invariant.agrees (subst (λ (b : BoardState). IsPending b.history c.args.n) (sym c.self.view_is) c.requires.pending)

pub invariant_of-self-2 : goal.invariant_of-self-2
invariant_of-self-2 c = rw (c.push_reserved.ensures.items, c.settle.ensures, c.reserve.ensures.items)
    (kept_close _ _ _ _ _ c.args.n c.args.k c.len.result c.self.invariant (subst (λ (b : BoardState). IsPending b.history c.args.n) (sym c.self.view_is) c.requires.pending)
    (subst (λ (b : BoardState). IsLeastLiveWithin (patterns b.history) (decisions_of b.history c.args.n) c.args.k) (sym c.self.view_is) c.requires.least) (omega (arith, c.len.ensures, c.reserve.ensures.len)))
