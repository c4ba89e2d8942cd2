use Rattle.std.proofs.Common.{rules, ◌≡◌, to_z, of_z}
use Rattle.std.specs.Int.{w128}
use Rattle.sparse_poly.proofs.Divisions.{row_high, row_heavy, IsRow-more}
use Rattle.sparse_poly.proofs.dividing.products_with.Goals as goal

pub returns-in-Err-Degree : goal.returns-in-Err-Degree
returns-in-Err-Degree c = row_high c.args.term.now c.args.others.now c.loop-other.other-index c.in-Err-Degree.field-0-0 c.other-item.result c.loop-other-test.true c.other-item.is (rw c.in-Err-Degree.field-0-is at c.in-Err-Degree.ensures)

pub returns-in_default : goal.returns-in_default
returns-in_default c =
    let first : to_z w128 (of_z w128 c.args.term.now.coeff) ≡ c.args.term.now.coeff = search rules in
    let second : to_z w128 (of_z w128 c.other-item.result.coeff) ≡ c.other-item.result.coeff = search rules in
    row_heavy c.args.term.now c.args.others.now c.loop-other.other-index c.other-item.result c.loop-other-test.true c.other-item.is (rw (first, second) at c.in_default.ensures)

pub loop-other-preserved : goal.loop-other-preserved
loop-other-preserved c =
    let first : to_z w128 (of_z w128 c.args.term.now.coeff) ≡ c.args.term.now.coeff = search rules in
    let second : to_z w128 (of_z w128 c.other-item.result.coeff) ≡ c.other-item.result.coeff = search rules in
    let value : to_z w128 (of_z w128 c.in-Some.coeff) ≡ c.in-Some.coeff = search rules in
    IsRow-more c.args.term.now c.other-item.result _ c.args.others.now c.loop-other.other-index c.loop-other.row.items _ c.loop-other-test.true c.other-item.is c.loop-other.invariant c.in-Ok.ensures.0 c.in-Ok.ensures.1 (rw (first, second) at c.in-Some.ensures) (rw value at c.in_ok-push.ensures.items)
