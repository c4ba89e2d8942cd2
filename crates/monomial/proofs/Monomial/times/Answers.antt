use Rattle.std.proofs.Common.{subst, sym}
use Rattle.monomial.specs.Monomials.{IsMonomial}
use Rattle.monomial.proofs.Exponents.{IsMonomial-product}
use Rattle.monomial.proofs.Monomial.times.Goals as goal

pub invariant_of-result : goal.invariant_of-result
invariant_of-result c =
    subst IsMonomial (sym c.of_keys.ensures) (IsMonomial-product _ _ _ _ _ c.self.invariant c.other.invariant c.in-Some.ensures.1 c.in-Some.ensures.2 c.in_default-multiply_keys.ensures)
