use Rattle.std.proofs.Common.{refl}
use Rattle.monomial.proofs.Exponents.{IsMonomial-product}
use Rattle.monomial.proofs.Monomial.times_of_any.Goals as goal

pub invariant_of-result : goal.invariant_of-result
invariant_of-result c =
    IsMonomial-product _ _ _ _ _ c.self.invariant c.other.invariant refl refl c.in_ok-powers.ensures
