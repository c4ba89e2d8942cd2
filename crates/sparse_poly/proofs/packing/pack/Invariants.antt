use Rattle.std.proofs.Common.{length, ◌+◌, ◌-◌, ◌≤◌}
use Rattle.smallvec.specs.SmallVec.{small_vec_len}
use Rattle.sparse_poly.proofs.PackedTerms.{PackedSoFar}
use Rattle.sparse_poly.proofs.packing.pack.Given as goal

abbrev pub invariant-loop-term : goal.invariant-loop-term
invariant-loop-term l = record {
  so_far : PackedSoFar l.layout l.terms l.term-index l.packed.items;
  room : small_vec_len l.packed + (length l.terms - l.term-index) ≤ l.packed.capacity;
}
