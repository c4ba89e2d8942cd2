use Rattle.std.proofs.Common.{rules, arith, ◌≡◌, ◌∙◌, ◌*ℤ◌, ap, refl, to_z, of_z}
use Rattle.std.specs.Int.{w128}
use Rattle.std.specs.declared.option.Option.TheVariants.{Some}
use Rattle.monomial.specs.Monomials.{too_high, monomial_times}
use Rattle.sparse_poly.specs.Contributions.{signed, higher}
use Rattle.sparse_poly.specs.Standing.{share_at}
use Rattle.sparse_poly.proofs.RowShares.{AreMade-share, AreMade-high}
use Rattle.sparse_poly.proofs.multiplying.Row.add_to.Goals as goal

pub others-preserved-in-Ok : goal.others-preserved-in-Ok
others-preserved-in-Ok c =
    let first : to_z w128 (of_z w128 c.others.self.term.now.coeff) ≡ c.others.self.term.now.coeff = search rules in
    let second : to_z w128 (of_z w128 c.in-Some.other.now.coeff) ≡ c.in-Some.other.now.coeff = search rules in
    let share = rw (first, second) at c.share_of-share.ensures.share in
    record {
      made = rw c.push_reserved.ensures.items (AreMade-share _ _ _ c.others.self _ c.in-Some.other.now _ c.share_of-share.result c.others.invariant.made c.in-Some.ensures.cases.0 refl refl c.in-Ok.ensures.0 (share ∙ ap (λ m. share_at m (signed c.others.self.minus (c.others.self.term.now.coeff *ℤ c.in-Some.other.now.coeff))) c.in-Ok.ensures.1));
      room = omega (arith, c.push_reserved.ensures.len, c.push_reserved.ensures.capacity, c.others.invariant.room, c.in-Some.ensures.cases.1);
    }

pub others-preserved : goal.others-preserved
others-preserved c =
    let high : too_high (monomial_times c.others.self.term.now.monomial c.in-Some.other.now.monomial) ≡ Some c.in-Err-Degree.var = search rules in
    let greatest : c.greater.result ≡ higher c.others.high (Some c.in-Err-Degree.var) = search rules in
    record {
      made = AreMade-high _ _ _ _ c.others.self _ c.in-Some.other.now _ _ c.others.invariant.made c.in-Some.ensures.cases.0 refl refl high greatest;
      room = omega (arith, c.others.invariant.room, c.in-Some.ensures.cases.1);
    }
