use Rattle.std.proofs.Common.{arith, sym, ◌∙◌, ap, ◌≤◌, length}
use Rattle.sparse_poly.specs.Factors.{is_member}
use Rattle.sparse_poly.proofs.Places.{drop_end}
use Rattle.sparse_poly.proofs.UnitMonomials.{is_contained, is_member-here}
use Rattle.sparse_poly.proofs.stripping.contains.Goals as goal

pub returns-in-Equal : goal.returns-in-Equal
returns-in-Equal c =
    is_contained c.args.list.now c.args.poly.now _ (sym (is_member-here c.args.list.now c.loop-member.member-index c.member-item.result c.args.poly.now c.loop-member-test.true c.member-item.is (sym c.order.ensures ∙ c.in-Equal.is)) ∙ c.loop-member.invariant)

pub returns : goal.returns
returns c =
    let past : length c.args.list.now ≤ c.loop-member.member-index = omega arith in
    is_contained c.args.list.now c.args.poly.now _ (sym (ap (λ xs. is_member xs c.args.poly.now) (drop_end c.args.list.now c.loop-member.member-index past)) ∙ c.loop-member.invariant)
