use Rattle.std.specs.Prelude.{◌≡◌, true, false}
use Rattle.std.proofs.Common.{arith, sym, ◌∙◌, below_more}
use Rattle.case_ledger.proofs.nodes.next_pending.Goals as goal

no : {A : Type 0} → false ≡ true → A
no e = cc

pub loop-n-preserved : goal.loop-n-preserved
loop-n-preserved c = below_more _ _ c.loop-n.invariant (λ p. no (sym c.if-is_pending.false ∙ c.is_pending.ensures.1 p))

pub returns-then-is_pending : goal.returns-then-is_pending
returns-then-is_pending c = record { first = c.loop-n.invariant; within = omega (arith, c.loop-n-test.true); pending = λ _. c.is_pending.ensures.0 c.if-is_pending.true }

pub returns : goal.returns
returns c = record { first = λ k lt. c.loop-n.invariant k (omega (arith, lt, c.loop-n-test.false)); within = omega arith; pending = λ lt. absurd (omega (arith, lt)) }
