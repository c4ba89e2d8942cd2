use Rattle.std.proofs.Common.{◌∙◌, sym, subst}
use Rattle.sparse_poly.specs.Factors.{IsUnitMonomial}
use Rattle.monomial.specs.Monomials.{IsMonomial}
use Rattle.sparse_poly.proofs.UnitMonomials.{IsMonomial-leading, IsMonomial-unit_powers, IsUnitMonomial-from}
use Rattle.sparse_poly.proofs.stripping.unit_monomial.Goals as goal

pub from_powers-requires : goal.from_powers-requires
from_powers-requires c =
    subst IsMonomial (sym (c.as_slice.ensures ∙ c.in_ok-powers.ensures)) (IsMonomial-unit_powers c.args.units.now c.args.terms.now c.in-Some.leading.now.monomial (IsMonomial-leading c.args.terms.now c.in-Some.leading.now c.in-Some.ensures.value c.requires))

pub returns-in-Ok : goal.returns-in-Ok
returns-in-Ok c =
    subst (IsUnitMonomial c.args.units.now c.args.terms.now) (sym (c.stored_as.ensures ∙ c.in-Ok.ensures ∙ c.as_slice.ensures ∙ c.in_ok-powers.ensures)) (IsUnitMonomial-from c.args.units.now c.args.terms.now c.in-Some.leading.now c.in-Some.ensures.value c.requires)
