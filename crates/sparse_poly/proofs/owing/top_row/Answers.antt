use Rattle.std.proofs.Common.{rules, ◌≡◌, ◌<◌, length, slice_index_or}
use Rattle.std.specs.BinaryHeap.{heap_items, IsUpperBound}
use Rattle.sparse_poly.specs.Owing.{row_cmp}
use Rattle.sparse_poly.proofs.Owings.{top_is}
use Rattle.sparse_poly.proofs.owing.top_row.Goals as goal

pub returns : goal.returns
returns c =
    let some : 0 < length (heap_items c.args.owed.now) = search rules in
    let first : c.in_ok-row.row.now ≡ slice_index_or (heap_items c.args.owed.now) 0 c.in_ok-row.row.now = search rules in
    let greatest : IsUpperBound row_cmp c.in_ok-row.row.now (heap_items c.args.owed.now) = search rules in
    top_is (heap_items c.args.owed.now) c.in_ok-row.row.now c.requires some first greatest
