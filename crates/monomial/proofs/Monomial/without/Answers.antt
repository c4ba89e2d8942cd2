use Rattle.monomial.proofs.Exponents.{IsMonomial-without}
use Rattle.monomial.proofs.Monomial.without.Goals as goal

pub invariant_of-result : goal.invariant_of-result
invariant_of-result c = rw (c.in_ok-powers.ensures) (IsMonomial-without _ _ c.self.invariant)
