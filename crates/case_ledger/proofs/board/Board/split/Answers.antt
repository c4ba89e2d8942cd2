use Rattle.std.proofs.Common.{sym, ◌∙◌, subst, arith}
use Rattle.case_rules.specs.declared.outcome.Outcome.TheVariants.{Split as split_end}
use Rattle.case_history.specs.History.{IsPending}
use Rattle.legal_history.specs.Legal.{EndsLiving}
use Rattle.case_ledger.specs.State.{BoardState}
use Rattle.case_ledger.proofs.Steps.{node_count, node_of_pending}
use Rattle.case_ledger.proofs.KeptSteps.{kept_split}
use Rattle.case_ledger.proofs.board.Board.split.Goals as goal

pub split-requires : goal.split-requires
split-requires c = node_of_pending _ _ _ _ _ c.args.n c.self.invariant.agrees (subst (λ (b : BoardState). IsPending b.history c.args.n) (sym c.self.view_is) c.requires.pending)

pub invariant_of-self-in-Ok : goal.invariant_of-self-in-Ok
invariant_of-self-in-Ok c = rw (c.push_reserved.ensures.items, c.in-Ok.ensures.ok, c.reserve.ensures.items)
    (kept_split _ _ (c.case_laws.ensures _ _ c.self.invariant.agrees.listed) _ _ _ c.args.n c.len-at.result c.args.by c.args.zero c.args.nonzero c.self.invariant (subst (λ (b : BoardState). IsPending b.history c.args.n) (sym c.self.view_is) c.requires.pending)
    (subst (λ (b : BoardState). EndsLiving b.root.equations b.budget b.history c.args.n (split_end c.args.by c.args.zero c.args.nonzero)) (sym c.self.view_is) c.requires.ends) (omega (arith, c.len-at.ensures, c.reserve.ensures.len)))

pub returns-in-Ok-clause-number : goal.returns-in-Ok-clause-number
returns-in-Ok-clause-number c = rw (← c.self.view_is) (c.in-Ok.ensures.number.0 ∙ node_count _ _ _ _ _ c.self.invariant.agrees, c.in-Ok.ensures.number.1)
