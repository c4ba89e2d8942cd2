use Rattle.std.proofs.Common.{rules, ◌≡◌, ◌*ℤ◌, ap, refl, to_z, of_z}
use Rattle.std.specs.Int.{w128}
use Rattle.std.specs.declared.option.Option.TheVariants.{Some}
use Rattle.monomial.specs.Monomials.{too_high, monomial_times}
use Rattle.sparse_poly.specs.Contributions.{signed, higher}
use Rattle.sparse_poly.specs.Standing.{share_at}
use Rattle.sparse_poly.proofs.RowShares.{IsPast-more, IsMade-share}
use Rattle.sparse_poly.proofs.multiplying.Row.next_product.Goals as goal

pub returns-in-Ok : goal.returns-in-Ok
returns-in-Ok c =
    let same : to_z w128 (of_z w128 c.in-Some.other.now.coeff) ≡ c.in-Some.other.now.coeff = search rules in
    rw same (IsMade-share _ c.others.self _ c.in-Some.other.now _ _ _ c.others.invariant.past c.in-Some.ensures.cases.0 refl refl c.in-Ok.ensures.0 (ap (λ m. share_at m (signed c.others.self.minus (c.others.self.term.now.coeff *ℤ c.in-Some.other.now.coeff))) c.in-Ok.ensures.1))

pub others-preserved : goal.others-preserved
others-preserved c =
    let high : too_high (monomial_times c.others.self.term.now.monomial c.in-Some.other.now.monomial) ≡ Some c.in-Err-Degree.var = search rules in
    let greatest : c.greater.result ≡ higher c.others.high (Some c.in-Err-Degree.var) = search rules in
    record {
      past = IsPast-more _ c.others.self _ c.in-Some.other.now _ _ _ _ c.others.invariant.past c.in-Some.ensures.cases.0 refl refl high greatest;
    }
