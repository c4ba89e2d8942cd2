use Rattle.std.proofs.Common.{ℕ}
use Rattle.std.specs.Int.{IsGcd}
use Rattle.sparse_poly.proofs.stripping.gcd.Given as goal

abbrev pub invariant-euclid : goal.invariant-euclid
invariant-euclid l = (g : ℕ) → IsGcd l.a l.b g → IsGcd l.first l.second g

abbrev pub decreases-euclid : goal.decreases-euclid
decreases-euclid l = l.b
