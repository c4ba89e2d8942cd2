use Rattle.std.proofs.Common.{rules, ◌≡◌, ◌*ℤ◌, ◌∙◌, ap, refl, to_z, of_z}
use Rattle.sparse_poly.specs.Contributions.{kept, signed}
use Rattle.std.specs.Int.{w128}
use Rattle.std.specs.Prelude.{unsigned_abs}
use Rattle.sparse_poly.proofs.Standings.{agree_kept}
use Rattle.sparse_poly.proofs.RowShares.{is_share_at}
use Rattle.sparse_poly.proofs.multiplying.share_of.Goals as goal

pub returns-clause-sum : goal.returns-clause-sum
returns-clause-sum c =
    let same : to_z w128 (of_z w128 c.kept_product-sum.result) ≡ c.kept_product-sum.result = search rules in
    let size : c.unsigned_abs.result ≡ unsigned_abs c.kept_product-sum.result = search rules in
    let value : c.kept_product-sum.result ≡ kept (signed c.args.minus (c.args.x *ℤ c.args.y)) = search rules in
    rw (size, same, value) (agree_kept (signed c.args.minus (c.args.x *ℤ c.args.y)))

pub returns-clause-share : goal.returns-clause-share
returns-clause-share c =
    let same : to_z w128 (of_z w128 c.kept_product-sum.result) ≡ c.kept_product-sum.result = search rules in
    let size : c.unsigned_abs.result ≡ unsigned_abs c.kept_product-sum.result = search rules in
    let value : c.kept_product-sum.result ≡ kept (signed c.args.minus (c.args.x *ℤ c.args.y)) = search rules in
    is_share_at _ c.args.monomial (signed c.args.minus (c.args.x *ℤ c.args.y)) refl (same ∙ value) (size ∙ ap unsigned_abs value)
