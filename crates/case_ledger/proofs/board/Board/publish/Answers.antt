use Rattle.std.proofs.Common.{sym, subst, arith}
use Rattle.case_rules.specs.declared.outcome.Outcome.TheVariants.{Leaf as leaf_end}
use Rattle.case_history.specs.History.{IsPending}
use Rattle.legal_history.specs.Legal.{EndsLiving}
use Rattle.case_ledger.specs.State.{BoardState}
use Rattle.case_ledger.proofs.Steps.{node_of_pending}
use Rattle.case_ledger.proofs.KeptSteps.{kept_publish}
use Rattle.case_ledger.proofs.board.Board.publish.Goals as goal

pub settle-requires : goal.settle-requires
settle-requires c = node_of_pending _ _ _ _ _ c.args.n c.self.invariant.agrees (subst (λ (b : BoardState). IsPending b.history c.args.n) (sym c.self.view_is) c.requires.pending)

pub invariant_of-self-2 : goal.invariant_of-self-2
invariant_of-self-2 c = rw (c.push_reserved.ensures.items, c.settle.ensures, c.reserve.ensures.items)
    (kept_publish _ _ _ _ _ c.args.n c.len.result c.args.leaf c.self.invariant (subst (λ (b : BoardState). IsPending b.history c.args.n) (sym c.self.view_is) c.requires.pending)
    (subst (λ (b : BoardState). EndsLiving b.root.equations b.budget b.history c.args.n (leaf_end c.args.leaf)) (sym c.self.view_is) c.requires.ends) (omega (arith, c.len.ensures, c.reserve.ensures.len)))
