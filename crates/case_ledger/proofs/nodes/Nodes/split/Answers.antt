use Rattle.std.specs.Prelude.{List, [], ◌∷◌, slice_set}
use Rattle.std.proofs.Common.{arith, sym, subst}
use Rattle.std.proofs.lemmas.List.{length-set}
use Rattle.case_ledger.specs.Nodes.{IsPendingNode}
use Rattle.case_ledger.specs.declared.nodes.Node.{Node}
use Rattle.case_ledger.specs.declared.nodes.Node.TheVariants.{Pending, Settled}
use Rattle.case_ledger.proofs.Counts.{none_below_settled, none_below_added, split_counted, two_pushed}
use Rattle.case_ledger.proofs.nodes.Nodes.split.Goals as goal

pub next_pending-self-inside-requires-clause-none : goal.next_pending-self-inside-requires-clause-none
next_pending-self-inside-requires-clause-none c = rw (c.deref.ensures.value, c.push_reserved-2.ensures.items, c.push_reserved.ensures.items, c.reserve.ensures.items, two_pushed)
    (none_below_added (slice_set c.self.inside.all.items c.args.n (Settled c.args.at)) (Pending c.args.zero ∷ Pending c.args.nonzero ∷ []) c.self.inside.next
    (omega (arith, c.self.invariant.is_next.within, length-set c.self.inside.all.items c.args.n (Settled c.args.at)))
    (none_below_settled c.self.inside.all.items c.args.n c.args.at c.self.inside.next c.self.invariant.is_next.first))

pub invariant_of-self-2 : goal.invariant_of-self-2
invariant_of-self-2 c = rw (c.push_reserved-2.ensures.items, c.push_reserved.ensures.items, c.reserve.ensures.items, two_pushed)
    (split_counted c.self.inside.all.items c.args.zero c.args.nonzero c.args.n c.args.at _ _ _ c.self.invariant (subst (λ (nodes : List Node). IsPendingNode nodes c.args.n) (sym c.self.view_is) c.requires)
    (rw (c.deref.ensures.value, c.push_reserved-2.ensures.items, c.push_reserved.ensures.items, c.reserve.ensures.items, two_pushed) at c.next_pending-self-inside.ensures))
