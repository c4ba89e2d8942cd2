use Rattle.std.proofs.Common.{arith}
use Rattle.std.proofs.lemmas.Option.{slice_get_within}
use Rattle.case_ledger.proofs.nodes.Nodes.first_pending.Goals as goal

pub returns-then-self-len : goal.returns-then-self-len
returns-then-self-len c = rw (← c.self.view_is) (record { pending = c.self.invariant.is_next.pending (omega (arith, c.len.ensures, c.if-self-len.true)); first = c.self.invariant.is_next.first })

pub returns : goal.returns
returns c = rw (← c.self.view_is) (λ k p. c.self.invariant.is_next.first k (omega (arith, slice_get_within _ k _ p.1, c.len.ensures, c.if-self-len.false)) p)
