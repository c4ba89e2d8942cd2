use Rattle.std.proofs.Common.{rules, ◌≡◌, to_z, of_z}
use Rattle.std.specs.Int.{w128}
use Rattle.sparse_poly.proofs.Contents.{content_small, IsContent-from}
use Rattle.sparse_poly.proofs.stripping.content_of.Goals as goal

pub signed_content-requires : goal.signed_content-requires
signed_content-requires c =
    let small = content_small c.args.terms.now c.in-Some.leading.now c.common_divisor-size.result c.in-Some.ensures.value c.requires c.common_divisor-size.ensures in
    let same : to_z w128 (of_z w128 c.in-Some.leading.now.coeff) ≡ c.in-Some.leading.now.coeff = search rules in
    rw same (record { nonzero = small.0; small = small.1 })

pub returns : goal.returns
returns c =
    let small = content_small c.args.terms.now c.in-Some.leading.now c.common_divisor-size.result c.in-Some.ensures.value c.requires c.common_divisor-size.ensures in
    let same : to_z w128 (of_z w128 c.in-Some.leading.now.coeff) ≡ c.in-Some.leading.now.coeff = search rules in
    let value : to_z w128 (of_z w128 c.signed_content.result) ≡ c.signed_content.result = search rules in
    rw value (IsContent-from c.args.terms.now c.in-Some.leading.now _ _ c.in-Some.ensures.value c.requires c.common_divisor-size.ensures small.1 (rw same at c.signed_content.ensures))
