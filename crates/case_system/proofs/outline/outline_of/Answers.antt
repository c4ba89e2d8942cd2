use Rattle.std.proofs.Common.{◌≡◌, ◌∷◌, ◌+◌, drop}
use mathlib.Core.Logic.{inr}
use Rattle.case_system.proofs.Outlining.{next_some, next_each, all_bits}
use Rattle.case_system.proofs.Placing.{drop_this}
use Rattle.case_system.proofs.outline.outline_of.Goals as goal

pub loop-term-init : goal.loop-term-init
loop-term-init c = record { some = λ v h. inr h; each = λ v d. (all_bits v, d) }

pub loop-term-preserved : goal.loop-term-preserved
loop-term-preserved c =
    let here : drop c.loop-term.term-index c.args.terms.now ≡ c.term-item.result ∷ drop (c.loop-term.term-index + 1) c.args.terms.now = drop_this _ _ _ c.loop-term-test.true c.term-item.is in
    record {
      some = λ v h. next_some v c.loop-term.outline.some c.bits_of-bits.result _ c.term-item.result _ here c.bits_of-bits.ensures (c.loop-term.invariant.some v h);
      each = λ v d. next_each v c.loop-term.outline.each c.bits_of-bits.result _ c.term-item.result _ here c.bits_of-bits.ensures (c.loop-term.invariant.each v d);
    }
