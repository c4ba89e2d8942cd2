use Rattle.std.proofs.Common.{arith, sym, ◌∙◌, ◌≤◌, length}
use Rattle.monomial.specs.Monomials.{power_cmp}
use Rattle.monomial.proofs.Ended.{ended_first, ended_second}
use Rattle.monomial.proofs.powers.Powers.order_by_power.Goals.{then-powers-test+else-i-len, else-powers-test}
use Rattle.monomial.proofs.powers.Powers.order_by_power.Goals as goal

pub returns : goal.returns
returns c =
    elim c.powers-test.branch [
      | then-powers-test+else-i-len w ↦
          let ended : length c.args.other.now ≤ c.powers.i = omega (arith, w.if-i-len.false, w.len-in-powers.ensures) in
          rw (c.cmp-2.ensures, c.len-2.ensures, c.len-3.ensures) (sym (ended_second power_cmp _ _ c.powers.i c.powers.invariant.first_in (omega (arith, ended, c.powers.invariant.second_in))) ∙ c.powers.invariant.same)
      | else-powers-test w ↦
          let ended : length c.args.self.now ≤ c.powers.i = omega (arith, w.powers-test.false, c.len.ensures) in
          rw (c.cmp-2.ensures, c.len-2.ensures, c.len-3.ensures) (sym (ended_first power_cmp _ _ c.powers.i (omega (arith, ended, c.powers.invariant.first_in)) c.powers.invariant.second_in) ∙ c.powers.invariant.same)
    ]
