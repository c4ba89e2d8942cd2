use Rattle.std.proofs.Common.{rules, ◌≡◌, ◌≢◌, pos, sym, subst, to_z, of_z}
use Rattle.std.specs.Int.{w128}
use Rattle.std.specs.BinaryHeap.{heap_items}
use Rattle.sparse_poly.specs.Contributions.{IsPoly}
use Rattle.sparse_poly.specs.Dividing.{IsTermOver, IsRow}
use Rattle.sparse_poly.specs.Owing.{term, AreOwed, IsOwedMore, IsNextTerm, IsTakenOff}
use Rattle.sparse_poly.proofs.LongDivision.{InDivision-start, too_heavy, none_lower, row_lower, no_next, no_next_row, next_row, InDivision-none, InDivision-more}
use Rattle.sparse_poly.proofs.dividing.quotient_by.Goals as goal

pub divisions-init : goal.divisions-init
divisions-init c =
    let owed : AreOwed (heap_items c.new-owed.result) = search rules in
    InDivision-start c.args.leading.now c.args.others.now c.args.terms.now c.new-made.result.items (heap_items c.new-owed.result) c.requires.poly owed c.new-owed.ensures.items c.new-made.ensures.items

pub returns-in_default-2 : goal.returns-in_default-2
returns-in_default-2 c =
    let next : IsNextTerm c.divisions.left.now (heap_items c.divisions.owed) (term c.in-Some.next.monomial c.in-Some.next.coeff) c.in-Some.next.below.now = rw c.in-Some.is at c.in_ok-next.ensures in
    let own : to_z w128 (of_z w128 c.in-Some.next.coeff) ≡ c.in-Some.next.coeff = search rules in
    too_heavy c.args.leading.now c.args.others.now c.args.terms.now c.divisions.left.now c.divisions.made.items (heap_items c.divisions.owed) c.in-Some.next.monomial c.in-Some.next.coeff c.in-Some.next.below.now c.requires.divisor c.divisions.invariant next (rw own at (rw c.in_default-2.is at c.in_ok-coeff.ensures))

pub divisions-smaller-then-coeff-eq0 : goal.divisions-smaller-then-coeff-eq0
divisions-smaller-then-coeff-eq0 c =
    let next : IsNextTerm c.divisions.left.now (heap_items c.divisions.owed) (term c.in-Some.next.monomial c.in-Some.next.coeff) c.in-Some.next.below.now = rw c.in-Some.is at c.in_ok-next.ensures in
    let own : to_z w128 (of_z w128 c.in-Some.next.coeff) ≡ c.in-Some.next.coeff = search rules in
    let value : to_z w128 (of_z w128 c.in-Some-2.coeff) ≡ c.in-Some-2.coeff = search rules in
    let taken : IsTakenOff c.in-Some.next.monomial c.in-Some.next.coeff (heap_items c.divisions.owed) (heap_items c.take_owed.new.owed) c.in-Some-2.coeff = rw own at (rw c.in-Some-2.is at c.in_ok-coeff.ensures) in
    none_lower c.args.leading.now c.args.others.now c.args.terms.now c.divisions.left.now c.divisions.made.items (heap_items c.divisions.owed) c.in-Some.next.monomial c.in-Some.next.coeff c.in-Some.next.below.now c.requires.divisor c.divisions.invariant next (heap_items c.take_owed.new.owed) c.in-Some-2.coeff taken

pub divisions-preserved-then-coeff-eq0 : goal.divisions-preserved-then-coeff-eq0
divisions-preserved-then-coeff-eq0 c =
    let next : IsNextTerm c.divisions.left.now (heap_items c.divisions.owed) (term c.in-Some.next.monomial c.in-Some.next.coeff) c.in-Some.next.below.now = rw c.in-Some.is at c.in_ok-next.ensures in
    let own : to_z w128 (of_z w128 c.in-Some.next.coeff) ≡ c.in-Some.next.coeff = search rules in
    let value : to_z w128 (of_z w128 c.in-Some-2.coeff) ≡ c.in-Some-2.coeff = search rules in
    let taken : IsTakenOff c.in-Some.next.monomial c.in-Some.next.coeff (heap_items c.divisions.owed) (heap_items c.take_owed.new.owed) c.in-Some-2.coeff = rw own at (rw c.in-Some-2.is at c.in_ok-coeff.ensures) in
    let none : c.in-Some-2.coeff ≡ pos 0 = search rules in
    InDivision-none c.args.leading.now c.args.others.now c.args.terms.now c.divisions.left.now c.divisions.made.items (heap_items c.divisions.owed) c.in-Some.next.monomial c.in-Some.next.coeff c.in-Some.next.below.now c.requires.divisor c.divisions.invariant next (heap_items c.take_owed.new.owed) c.in-Some-2.coeff taken none

pub returns-in_default-3 : goal.returns-in_default-3
returns-in_default-3 c =
    let next : IsNextTerm c.divisions.left.now (heap_items c.divisions.owed) (term c.in-Some.next.monomial c.in-Some.next.coeff) c.in-Some.next.below.now = rw c.in-Some.is at c.in_ok-next.ensures in
    let own : to_z w128 (of_z w128 c.in-Some.next.coeff) ≡ c.in-Some.next.coeff = search rules in
    let value : to_z w128 (of_z w128 c.in-Some-2.coeff) ≡ c.in-Some-2.coeff = search rules in
    let taken : IsTakenOff c.in-Some.next.monomial c.in-Some.next.coeff (heap_items c.divisions.owed) (heap_items c.take_owed.new.owed) c.in-Some-2.coeff = rw own at (rw c.in-Some-2.is at c.in_ok-coeff.ensures) in
    let some : c.in-Some-2.coeff ≢ pos 0 = search rules in
    no_next c.args.leading.now c.args.others.now c.args.terms.now c.divisions.left.now c.divisions.made.items (heap_items c.divisions.owed) c.in-Some.next.monomial c.in-Some.next.coeff c.in-Some.next.below.now c.requires.divisor c.divisions.invariant next (heap_items c.take_owed.new.owed) c.in-Some-2.coeff taken some (rw value at (rw c.in_default-3.is at c.in_ok-term.ensures))

pub returns-in_default-4 : goal.returns-in_default-4
returns-in_default-4 c =
    let next : IsNextTerm c.divisions.left.now (heap_items c.divisions.owed) (term c.in-Some.next.monomial c.in-Some.next.coeff) c.in-Some.next.below.now = rw c.in-Some.is at c.in_ok-next.ensures in
    let own : to_z w128 (of_z w128 c.in-Some.next.coeff) ≡ c.in-Some.next.coeff = search rules in
    let value : to_z w128 (of_z w128 c.in-Some-2.coeff) ≡ c.in-Some-2.coeff = search rules in
    let taken : IsTakenOff c.in-Some.next.monomial c.in-Some.next.coeff (heap_items c.divisions.owed) (heap_items c.take_owed.new.owed) c.in-Some-2.coeff = rw own at (rw c.in-Some-2.is at c.in_ok-coeff.ensures) in
    let some : c.in-Some-2.coeff ≢ pos 0 = search rules in
    let over : IsTermOver c.args.leading.now (term c.in-Some.next.monomial c.in-Some-2.coeff) c.in-Some-3.term = rw value at (rw c.in-Some-3.is at c.in_ok-term.ensures) in
    no_next_row c.args.leading.now c.args.others.now c.args.terms.now c.divisions.left.now c.divisions.made.items (heap_items c.divisions.owed) c.in-Some.next.monomial c.in-Some.next.coeff c.in-Some.next.below.now c.requires.divisor c.divisions.invariant next (heap_items c.take_owed.new.owed) c.in-Some-2.coeff taken some c.in-Some-3.term over (rw c.in_default-4.is at c.in_ok-row.ensures)

pub owe-requires-clause-poly : goal.owe-requires-clause-poly
owe-requires-clause-poly c =
    let next : IsNextTerm c.divisions.left.now (heap_items c.divisions.owed) (term c.in-Some.next.monomial c.in-Some.next.coeff) c.in-Some.next.below.now = rw c.in-Some.is at c.in_ok-next.ensures in
    let own : to_z w128 (of_z w128 c.in-Some.next.coeff) ≡ c.in-Some.next.coeff = search rules in
    let value : to_z w128 (of_z w128 c.in-Some-2.coeff) ≡ c.in-Some-2.coeff = search rules in
    let taken : IsTakenOff c.in-Some.next.monomial c.in-Some.next.coeff (heap_items c.divisions.owed) (heap_items c.take_owed.new.owed) c.in-Some-2.coeff = rw own at (rw c.in-Some-2.is at c.in_ok-coeff.ensures) in
    let some : c.in-Some-2.coeff ≢ pos 0 = search rules in
    let over : IsTermOver c.args.leading.now (term c.in-Some.next.monomial c.in-Some-2.coeff) c.in-Some-3.term = rw value at (rw c.in-Some-3.is at c.in_ok-term.ensures) in
    let row : IsRow c.in-Some-3.term c.args.others.now c.in-Some-4.row.items = rw c.in-Some-4.is at c.in_ok-row.ensures in
    let same : c.from.result.items ≡ c.in-Some-4.row.items = search rules in
    subst IsPoly (sym same) (next_row c.args.leading.now c.args.others.now c.args.terms.now c.divisions.left.now c.divisions.made.items (heap_items c.divisions.owed) c.in-Some.next.monomial c.in-Some.next.coeff c.in-Some.next.below.now c.requires.divisor c.divisions.invariant next (heap_items c.take_owed.new.owed) c.in-Some-2.coeff taken some c.in-Some-3.term c.in-Some-4.row.items over row)

pub divisions-smaller : goal.divisions-smaller
divisions-smaller c =
    let next : IsNextTerm c.divisions.left.now (heap_items c.divisions.owed) (term c.in-Some.next.monomial c.in-Some.next.coeff) c.in-Some.next.below.now = rw c.in-Some.is at c.in_ok-next.ensures in
    let own : to_z w128 (of_z w128 c.in-Some.next.coeff) ≡ c.in-Some.next.coeff = search rules in
    let value : to_z w128 (of_z w128 c.in-Some-2.coeff) ≡ c.in-Some-2.coeff = search rules in
    let taken : IsTakenOff c.in-Some.next.monomial c.in-Some.next.coeff (heap_items c.divisions.owed) (heap_items c.take_owed.new.owed) c.in-Some-2.coeff = rw own at (rw c.in-Some-2.is at c.in_ok-coeff.ensures) in
    let over : IsTermOver c.args.leading.now (term c.in-Some.next.monomial c.in-Some-2.coeff) c.in-Some-3.term = rw value at (rw c.in-Some-3.is at c.in_ok-term.ensures) in
    let row : IsRow c.in-Some-3.term c.args.others.now c.in-Some-4.row.items = rw c.in-Some-4.is at c.in_ok-row.ensures in
    let same : c.from.result.items ≡ c.in-Some-4.row.items = search rules in
    let more : IsOwedMore (heap_items c.take_owed.new.owed) c.in-Some-4.row.items (heap_items c.owe.new.owed) = rw same at c.in_ok-owe.ensures in
    row_lower c.args.leading.now c.args.others.now c.args.terms.now c.divisions.left.now c.divisions.made.items (heap_items c.divisions.owed) c.in-Some.next.monomial c.in-Some.next.coeff c.in-Some.next.below.now c.requires.divisor c.divisions.invariant next (heap_items c.take_owed.new.owed) c.in-Some-2.coeff taken c.in-Some-3.term c.in-Some-4.row.items (heap_items c.owe.new.owed) over row more

pub divisions-preserved : goal.divisions-preserved
divisions-preserved c =
    let next : IsNextTerm c.divisions.left.now (heap_items c.divisions.owed) (term c.in-Some.next.monomial c.in-Some.next.coeff) c.in-Some.next.below.now = rw c.in-Some.is at c.in_ok-next.ensures in
    let own : to_z w128 (of_z w128 c.in-Some.next.coeff) ≡ c.in-Some.next.coeff = search rules in
    let value : to_z w128 (of_z w128 c.in-Some-2.coeff) ≡ c.in-Some-2.coeff = search rules in
    let taken : IsTakenOff c.in-Some.next.monomial c.in-Some.next.coeff (heap_items c.divisions.owed) (heap_items c.take_owed.new.owed) c.in-Some-2.coeff = rw own at (rw c.in-Some-2.is at c.in_ok-coeff.ensures) in
    let some : c.in-Some-2.coeff ≢ pos 0 = search rules in
    let over : IsTermOver c.args.leading.now (term c.in-Some.next.monomial c.in-Some-2.coeff) c.in-Some-3.term = rw value at (rw c.in-Some-3.is at c.in_ok-term.ensures) in
    let row : IsRow c.in-Some-3.term c.args.others.now c.in-Some-4.row.items = rw c.in-Some-4.is at c.in_ok-row.ensures in
    let same : c.from.result.items ≡ c.in-Some-4.row.items = search rules in
    let more : IsOwedMore (heap_items c.take_owed.new.owed) c.in-Some-4.row.items (heap_items c.owe.new.owed) = rw same at c.in_ok-owe.ensures in
    InDivision-more c.args.leading.now c.args.others.now c.args.terms.now c.divisions.left.now c.divisions.made.items (heap_items c.divisions.owed) c.in-Some.next.monomial c.in-Some.next.coeff c.in-Some.next.below.now c.requires.divisor c.divisions.invariant next (heap_items c.take_owed.new.owed) c.in-Some-2.coeff taken some c.in-Some-3.term c.in-Some-4.row.items (heap_items c.owe.new.owed) _ over row more c.in_ok-push.ensures.items
