use Rattle.std.proofs.Common.{◌≤◌, drop, length}
use Rattle.sparse_poly.specs.Contributions.{IsPoly}
use Rattle.sparse_poly.proofs.falling.is_polynomial.Given as goal

abbrev pub invariant-terms : goal.invariant-terms
invariant-terms l = record {
  inside : l.at ≤ length l.terms;
  poly : IsPoly (drop l.at l.terms);
}

abbrev pub decreases-terms : goal.decreases-terms
decreases-terms l = l.at
