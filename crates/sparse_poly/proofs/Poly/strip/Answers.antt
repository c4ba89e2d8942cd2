use Rattle.std.proofs.Common.{rules, ◌≡◌, ◌∙◌, to_z, of_z, [], ◌∷◌}
use Rattle.std.specs.Int.{w128}
use Rattle.sparse_poly.specs.declared.Term.{Term}
use Rattle.sparse_poly.specs.Contributions.{IsPoly}
use Rattle.sparse_poly.proofs.Strips.{IsStripped-from}
use Rattle.sparse_poly.proofs.Poly.strip.Goals as goal

pub returns : goal.returns
returns c =
    let same : to_z w128 (of_z w128 c.content_of-content.result) ≡ c.content_of-content.result = search rules in
    let poly : IsPoly c.terms-terms.result.now = rw c.terms-terms.ensures.value c.terms-terms.ensures.poly in
    let factor : c.in_ok-of.field-0 ≡ (let t : Term = record { monomial = c.in_ok-monomial.monomial; coeff = c.content_of-content.result } in t) ∷ [] = c.in_ok-of.ensures ∙ rw (same, c.new-factor.ensures.items) at c.in_ok-push.ensures.items in
    rw (← c.terms-terms.ensures.value) (IsStripped-from c.args.units.now c.terms-terms.result.now c.in_ok-monomial.monomial c.content_of-content.result _ _ poly c.content_of-content.ensures c.in_ok-monomial.ensures (rw (same, ← c.terms-terms.ensures.value) at c.in_ok-rest.ensures) factor)
