use Rattle.std.proofs.Common.{rules, ◌≡◌, to_z, of_z}
use Rattle.std.specs.Int.{w128}
use Rattle.std.specs.BinaryHeap.{heap_items}
use Rattle.sparse_poly.proofs.Owings.{too_heavy, IsTakingOff-more}
use Rattle.sparse_poly.proofs.owing.take_owed.Goals as goal

pub returns-in_default-difference_of : goal.returns-in_default-difference_of
returns-in_default-difference_of c =
    let own : to_z w128 (of_z w128 c.in-Some.row.first.coeff) ≡ c.in-Some.row.first.coeff = search rules in
    let value : to_z w128 (of_z w128 c.args.coeff) ≡ c.args.coeff = search rules in
    rw value at (too_heavy c.args.monomial.now _ (heap_items c.args.owed.now) (heap_items c.rows.owed) _ _ c.in-Some.row c.rows.invariant c.in-Some.ensures (rw own at c.in_default-difference_of.ensures))

pub rows-preserved-in_ok-owe : goal.rows-preserved-in_ok-owe
rows-preserved-in_ok-owe c =
    let own : to_z w128 (of_z w128 c.in-Some.row.first.coeff) ≡ c.in-Some.row.first.coeff = search rules in
    let value : to_z w128 (of_z w128 c.in-Some-difference_of.less) ≡ c.in-Some-difference_of.less = search rules in
    rw value (IsTakingOff-more c.args.monomial.now _ (heap_items c.args.owed.now) (heap_items c.rows.owed) _ _ c.in-Some.row c.rows.invariant c.in-Some.ensures (heap_items c.owe.new.owed) c.in-Some-difference_of.less c.in_ok-owe.ensures (rw own at c.in-Some-difference_of.ensures))

pub rows-preserved : goal.rows-preserved
rows-preserved c =
    let own : to_z w128 (of_z w128 c.in-Some.row.first.coeff) ≡ c.in-Some.row.first.coeff = search rules in
    let value : to_z w128 (of_z w128 c.in-Some-difference_of.less) ≡ c.in-Some-difference_of.less = search rules in
    rw value (IsTakingOff-more c.args.monomial.now _ (heap_items c.args.owed.now) (heap_items c.rows.owed) _ _ c.in-Some.row c.rows.invariant c.in-Some.ensures (heap_items c.owe.new.owed) c.in-Some-difference_of.less c.in_ok-owe.ensures (rw own at c.in-Some-difference_of.ensures))
