use Rattle.case_ledger.specs.Nodes.{HasNoneBelow}
use Rattle.case_ledger.proofs.nodes.next_pending.Given as goal

-- no case before n is pending
abbrev pub invariant-loop-n : goal.invariant-loop-n
invariant-loop-n l = HasNoneBelow l.nodes l.n
