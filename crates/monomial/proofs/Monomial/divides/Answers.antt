use Rattle.std.proofs.Common.{subst}
use Rattle.monomial.specs.Monomials.{IsMonomial}
use Rattle.monomial.proofs.Exponents.{Divides-from_each, each-from_Divides}
use Rattle.monomial.proofs.Monomial.divides.Goals as goal

pub returns : goal.returns
returns c =
    let whole : IsMonomial c.args.self.now = subst IsMonomial c.self.view_is c.self.invariant in
    rw (c.divides_powers.ensures, c.self.view_is, c.other.view_is) (Divides-from_each _ _, each-from_Divides _ _ whole.powers)
