use Rattle.std.proofs.Common.{length}
use Rattle.std.specs.BinaryHeap.{heap_items}
use Rattle.sparse_poly.specs.Owing.{owed_terms}
use Rattle.sparse_poly.proofs.Owings.{IsTakingOff}
use Rattle.sparse_poly.proofs.owing.take_owed.Given as goal

abbrev pub invariant-rows : goal.invariant-rows
invariant-rows l = IsTakingOff l.monomial l.coeff (heap_items l.initial.owed) (heap_items l.owed) l.left

abbrev pub decreases-rows : goal.decreases-rows
decreases-rows l = length (owed_terms (heap_items l.owed))
