use Rattle.std.proofs.Common.{◌++◌}
use Rattle.std.specs.BinaryHeap.{heap_items}
use Rattle.sparse_poly.specs.Owing.{owed_terms}
use Rattle.sparse_poly.proofs.LongDivision.{InDivision, greatest_number}
use Rattle.sparse_poly.proofs.dividing.quotient_by.Given as goal

abbrev pub invariant-divisions : goal.invariant-divisions
invariant-divisions l = InDivision l.leading l.others l.terms l.left l.made.items (heap_items l.owed)

abbrev pub decreases-divisions : goal.decreases-divisions
decreases-divisions l = greatest_number (l.left ++ owed_terms (heap_items l.owed))
