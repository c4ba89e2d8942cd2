use Rattle.std.proofs.Common.{ℕ, ◌<◌, ◌-◌, length, slice_index_or}
use Rattle.sparse_poly.specs.Clearing.{IsDividedBy}
use Rattle.sparse_poly.proofs.clearing.has_divisor.Given as goal

abbrev pub invariant-powers : goal.invariant-powers
invariant-powers l = (k : ℕ) → k < l.i → IsDividedBy (slice_index_or l.monomial k (0, 0)).0 l.terms → ⊥

abbrev pub decreases-powers : goal.decreases-powers
decreases-powers l = length l.monomial - l.i
