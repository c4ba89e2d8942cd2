use Rattle.std.proofs.Common.{subst}
use Rattle.monomial.specs.Monomials.{IsMonomial}
use Rattle.monomial.proofs.Exponents.{IsMonomial-lowered, times-lowered}
use Rattle.monomial.proofs.Monomial.over.Goals as goal

pub invariant_of-result : goal.invariant_of-result
invariant_of-result c = rw (c.in_ok-powers.ensures) (IsMonomial-lowered _ _ c.self.invariant)

pub returns : goal.returns
returns c =
    let whole : IsMonomial c.args.self.now = subst IsMonomial c.self.view_is c.self.invariant in
    let divisor : IsMonomial c.args.divisor.now = subst IsMonomial c.divisor.view_is c.divisor.invariant in
    rw (c.in_ok-powers.ensures, c.self.view_is, c.divisor.view_is) (times-lowered _ _ whole.powers divisor.powers c.requires)
