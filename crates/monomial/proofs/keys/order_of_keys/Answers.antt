use Rattle.std.proofs.Common.{rules, arith, sym, ◌∙◌, ◌≤◌, length}
use Rattle.std.specs.Ordering.{nat_cmp}
use Rattle.monomial.proofs.Ended.{ended_first, ended_second}
use Rattle.monomial.proofs.KeyOrder.{differing, keys_order}
use Rattle.monomial.proofs.keys.order_of_keys.Goals.{then-keys-test+else-i-second, else-keys-test}
use Rattle.monomial.proofs.keys.order_of_keys.Goals as goal

pub returns-then-x-y : goal.returns-then-x-y
returns-then-x-y c =
    c.cmp.ensures ∙ sym (differing c.args.first.now c.args.second.now c.keys.i _ _ (search rules) (search rules) (search rules)) ∙ c.keys.invariant.same ∙ sym (keys_order c.args.first.now c.args.second.now)

pub returns : goal.returns
returns c =
    elim c.keys-test.branch [
      | then-keys-test+else-i-second w ↦
          let ended : length c.args.second.now ≤ c.keys.i = omega (arith, w.if-i-second.false) in
          c.cmp-2.ensures ∙ sym (ended_second (λ k m. nat_cmp k.word m.word) c.args.first.now c.args.second.now c.keys.i c.keys.invariant.first_in (omega (arith, ended, c.keys.invariant.second_in))) ∙ c.keys.invariant.same ∙ sym (keys_order c.args.first.now c.args.second.now)
      | else-keys-test w ↦
          let ended : length c.args.first.now ≤ c.keys.i = omega (arith, w.keys-test.false) in
          c.cmp-2.ensures ∙ sym (ended_first (λ k m. nat_cmp k.word m.word) c.args.first.now c.args.second.now c.keys.i (omega (arith, ended, c.keys.invariant.first_in)) c.keys.invariant.second_in) ∙ c.keys.invariant.same ∙ sym (keys_order c.args.first.now c.args.second.now)
    ]
