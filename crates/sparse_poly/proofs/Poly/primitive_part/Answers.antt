use Rattle.std.proofs.Common.{rules, ◌≡◌, to_z, of_z}
use Rattle.std.specs.Int.{w128}
use Rattle.std.proofs.lemmas.Result.{IfOk-weaker}
use Rattle.sparse_poly.proofs.Strips.{IsPrimitivePart-quotient}
use Rattle.sparse_poly.proofs.Poly.primitive_part.Goals as goal

pub returns : goal.returns
returns c =
    let same : to_z w128 (of_z w128 c.content_of.result) ≡ c.content_of.result = search rules in
    rw (← c.terms-terms.ensures.value) (IfOk-weaker _ _ _ (λ q e. IsPrimitivePart-quotient c.terms-terms.result.now c.one-one.result c.content_of.result q c.one-one.ensures c.content_of.ensures e) (rw (same, ← c.terms-terms.ensures.value) at c.over.ensures))
