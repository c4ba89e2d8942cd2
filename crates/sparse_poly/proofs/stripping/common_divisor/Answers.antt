use Rattle.std.proofs.Common.{rules, subst, ◌≡◌, ◌+◌, take}
use Rattle.std.specs.Prelude.{unsigned_abs}
use Rattle.sparse_poly.specs.Factors.{IsCommonDivisor}
use Rattle.sparse_poly.proofs.Contents.{IsCommonDivisor-more, IsCommonDivisor-one}
use Rattle.sparse_poly.proofs.stripping.common_divisor.Goals as goal

pub loop-term-preserved : goal.loop-term-preserved
loop-term-preserved c =
    let size : c.unsigned_abs.result ≡ unsigned_abs c.term-item.result.coeff = search rules in
    IsCommonDivisor-more c.args.terms.now c.loop-term.term-index c.term-item.result _ _ _ c.loop-term-test.true c.term-item.is c.loop-term.invariant size c.gcd-divisor.ensures

pub returns-then-divisor-eq1 : goal.returns-then-divisor-eq1
returns-then-divisor-eq1 c =
    let size : c.unsigned_abs.result ≡ unsigned_abs c.term-item.result.coeff = search rules in
    let longer = IsCommonDivisor-more c.args.terms.now c.loop-term.term-index c.term-item.result _ _ _ c.loop-term-test.true c.term-item.is c.loop-term.invariant size c.gcd-divisor.ensures in
    IsCommonDivisor-one c.args.terms.now (c.loop-term.term-index + 1) (subst (IsCommonDivisor (take (c.loop-term.term-index + 1) c.args.terms.now)) c.if-divisor-eq1.true longer)
