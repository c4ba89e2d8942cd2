use Rattle.std.specs.Prelude.{List}
use Rattle.std.proofs.Common.{arith, sym, subst}
use Rattle.case_ledger.specs.Nodes.{IsPendingNode, IsNext}
use Rattle.case_ledger.specs.declared.nodes.Node.{Node}
use Rattle.case_ledger.proofs.Counts.{one_fewer, none_below_settled, settled_counted}
use Rattle.case_ledger.proofs.nodes.Nodes.settle.Goals as goal

pub overflow_sub-self : goal.overflow_sub-self
overflow_sub-self c = omega (arith, one_fewer c.self.inside.all.items c.args.n c.args.at (subst (λ (nodes : List Node). IsPendingNode nodes c.args.n) (sym c.self.view_is) c.requires), c.self.invariant.pending_is)

pub next_pending-self-inside-requires-clause-none : goal.next_pending-self-inside-requires-clause-none
next_pending-self-inside-requires-clause-none c = rw c.deref.ensures.value (none_below_settled c.self.inside.all.items c.args.n c.args.at _ c.self.invariant.is_next.first)

pub invariant_of-self : goal.invariant_of-self
invariant_of-self c = settled_counted c.self.inside.all.items c.args.n c.args.at _ _ _ c.self.invariant (subst (λ (nodes : List Node). IsPendingNode nodes c.args.n) (sym c.self.view_is) c.requires) (subst (λ (nodes : List Node). IsNext nodes c.next_pending-self-inside.result) c.deref.ensures.value c.next_pending-self-inside.ensures)
