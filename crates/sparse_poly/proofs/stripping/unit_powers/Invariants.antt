use Rattle.std.proofs.Common.{◌≡◌, ◌≤◌, ◌-◌, drop, ◌++◌, length}
use Rattle.sparse_poly.specs.Factors.{unit_powers}
use Rattle.sparse_poly.proofs.stripping.unit_powers.Given as goal

abbrev pub invariant-powers : goal.invariant-powers
invariant-powers l = record {
  inside : l.i ≤ length l.monomial;
  same : unit_powers l.units l.terms l.monomial ≡ l.left.items ++ unit_powers l.units l.terms (drop l.i l.monomial);
}

abbrev pub decreases-powers : goal.decreases-powers
decreases-powers l = length l.monomial - l.i
