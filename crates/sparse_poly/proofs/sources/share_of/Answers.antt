use Rattle.std.proofs.Common.{rules, ◌≡◌, ◌*ℤ◌, ◌∙◌, ap, refl, to_z, of_z, unsigned_abs}
use Rattle.std.specs.Int.{w128}
use Rattle.sparse_poly.specs.Contributions.{kept, signed}
use Rattle.sparse_poly.proofs.Packings.{is_row_share}
use Rattle.sparse_poly.proofs.sources.share_of.Goals as goal

pub returns : goal.returns
returns c =
    let same : to_z w128 (of_z w128 c.kept_product-sum.result) ≡ c.kept_product-sum.result = search rules in
    let size : c.unsigned_abs.result ≡ unsigned_abs c.kept_product-sum.result = search rules in
    let value : c.kept_product-sum.result ≡ kept (signed c.args.minus (c.args.t.coeff *ℤ c.args.u.coeff)) = search rules in
    is_row_share c.args.minus c.args.t c.args.u _ refl (same ∙ value) (size ∙ ap unsigned_abs value)
