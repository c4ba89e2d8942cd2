use mathlib.Core.Logic.{inl}
use Rattle.std.proofs.Common.{sym, ◌∙◌, subst, refl}
use Rattle.sparse_poly.specs.Clearing.{IsStripUnit}
use Rattle.sparse_poly.proofs.UnitOne.{unit_one}
use Rattle.sparse_poly.proofs.Clearings.{IsUnit-by_clearing}
use Rattle.std.proofs.lemmas.Bool.{true≢false}
use Rattle.sparse_poly.proofs.Poly.is_unit.Goals as goal

pub returns-then-is_one : goal.returns-then-is_one
returns-then-is_one c = (λ t. inl (subst (IsStripUnit c.args.units.now) (sym (c.is_one.ensures.0 c.if-is_one.true)) (unit_one c.args.units.now)), λ u. refl)

pub returns : goal.returns
returns c =
    IsUnit-by_clearing c.args.units.now c.args.self.now c.in_ok-stripped.stripped.factor c.in_ok-stripped.stripped.rest c.in_ok-cleared.cleared.factor c.in_ok-cleared.cleared.rest _ c.terms-terms.ensures.poly c.in_ok-stripped.ensures
    (λ m. true≢false (sym (c.is_one_or_member.ensures.1 m) ∙ c.if-is_one_or_member.false)) c.in_ok-cleared.ensures c.is_one_or_member-2.ensures
