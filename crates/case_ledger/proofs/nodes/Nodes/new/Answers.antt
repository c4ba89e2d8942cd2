use Rattle.case_ledger.proofs.Counts.{one_counted}
use Rattle.case_ledger.proofs.nodes.Nodes.new.Goals as goal

pub invariant_of-result : goal.invariant_of-result
invariant_of-result c = rw (c.push_reserved.ensures.items, c.in_ok-all.ensures.items) (one_counted c.args.case)
