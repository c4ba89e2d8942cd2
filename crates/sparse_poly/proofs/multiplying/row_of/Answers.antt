use Rattle.std.proofs.Common.{rules, ◌≡◌, subst, sym}
use Rattle.sparse_poly.specs.Contributions.{signed_row, higher, degree_of}
use Rattle.sparse_poly.specs.Standing.{product_shares, IsDescending}
use Rattle.sparse_poly.proofs.RowShares.{row_sums, product_shares-fall}
use Rattle.sparse_poly.proofs.multiplying.row_of.Goals as goal

pub returns-clause-sums : goal.returns-clause-sums
returns-clause-sums c =
    let made : c.add_to.new.shares.items ≡ product_shares c.args.minus c.args.t.now c.args.us.now = search rules in
    let noted : c.add_to.new.high ≡ higher c.args.high.now (degree_of (signed_row c.args.minus c.args.t.now c.args.us.now)) = search rules in
    row_sums c.args.minus c.args.t.now c.args.us.now c.args.high.now _ _ (made, noted)

pub returns-clause-order : goal.returns-clause-order
returns-clause-order c h i f =
    let made : c.add_to.new.shares.items ≡ product_shares c.args.minus c.args.t.now c.args.us.now = search rules in
    subst IsDescending (sym made) (product_shares-fall c.args.minus c.args.t.now c.args.us.now h i f)
