use Rattle.std.proofs.Common.{rules, ◌≡◌, sym, subst, to_z, of_z, pos, length}
use Rattle.std.specs.Int.{w128}
use Rattle.std.proofs.lemmas.List.{nil_from_length}
use Rattle.std.proofs.lemmas.Result.{IfOk-weaker}
use Rattle.sparse_poly.specs.declared.Term.{Term}
use Rattle.sparse_poly.specs.Factors.{IsQuotient}
use Rattle.sparse_poly.proofs.Contents.{IsPoly-quotient, IsQuotient-one}
use Rattle.sparse_poly.proofs.Poly.over.Goals as goal

pub returns-then-divisor-eq1 : goal.returns-then-divisor-eq1
returns-then-divisor-eq1 c =
    let none : length c.args.monomial.now ≡ 0 = search rules in
    let one : c.args.divisor ≡ pos 1 = search rules in
    let by : Term = record { monomial = c.args.monomial.now; coeff = c.args.divisor } in
    let whole = IsQuotient-one c.args.self.now c.args.monomial.now c.args.divisor (nil_from_length _ none) one c.terms-terms.ensures.poly in
    IfOk-weaker _ _ _ (λ p e. subst (IsQuotient c.args.self.now by) (sym e) whole) c.copy.ensures

pub of-requires : goal.of-requires
of-requires c =
    let same : to_z w128 (of_z w128 c.args.divisor) ≡ c.args.divisor = search rules in
    let by : Term = record { monomial = c.args.monomial.now; coeff = c.args.divisor } in
    let quotient : IsQuotient c.args.self.now by c.in_ok-rest.rest.items = rw (same, c.terms-terms.ensures.value) at c.in_ok-rest.ensures in
    IsPoly-quotient c.args.self.now by _ c.terms-terms.ensures.poly c.len-powers.ensures.monomial.powers c.requires.nonzero quotient
