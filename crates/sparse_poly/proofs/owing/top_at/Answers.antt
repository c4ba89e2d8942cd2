use Rattle.std.proofs.Common.{rules, ◌≡◌, ◌∷◌, sym, slice_index_or}
use Rattle.std.specs.Prelude.{IsPermutation}
use Rattle.std.specs.BinaryHeap.{heap_items, IsHeap}
use Rattle.sparse_poly.specs.Owing.{row_cmp}
use Rattle.sparse_poly.proofs.Owings.{none_at, row_taken}
use Rattle.sparse_poly.proofs.owing.top_at.Goals as goal

pub returns-in_default : goal.returns-in_default
returns-in_default c = none_at c.args.monomial.now c.in_ok-top_row.field-0.now.first.monomial (heap_items c.args.owed.now) c.in_ok-top_row.ensures (λ e. c.in_default.not-Equal (search rules))

pub returns-in_ok-row-in-Equal : goal.returns-in_ok-row-in-Equal
returns-in_ok-row-in-Equal c =
    let top : c.in_ok-row-in-Equal.row ≡ slice_index_or (heap_items c.args.owed.now) 0 c.in_ok-row-in-Equal.row = search rules in
    let moved : IsPermutation (heap_items c.args.owed.now) (c.in_ok-row-in-Equal.row ∷ heap_items c.pop.new.self) = search rules in
    let ordered : IsHeap row_cmp (heap_items c.pop.new.self) = search rules in
    row_taken c.args.monomial.now c.in_ok-top_row.field-0.now.first.monomial (heap_items c.args.owed.now) (heap_items c.pop.new.self) c.in_ok-row-in-Equal.row c.requires c.in_ok-top_row.ensures (sym c.in-Equal.ensures) top moved ordered
