use Rattle.std.proofs.Common.{◌≡◌, ◌≤◌, ◌+◌, ◌-◌, ◌++◌, drop, length}
use Rattle.monomial.specs.Monomials.{monomial_times}
use Rattle.poly_text.proofs.factors.times.Given as goal

abbrev pub invariant-both : goal.invariant-both
invariant-both l = record {
  first_in : l.i ≤ length l.first;
  second_in : l.j ≤ length l.second;
  same : monomial_times l.first l.second ≡ l.merged.items ++ monomial_times (drop l.i l.first) (drop l.j l.second);
}

abbrev pub decreases-both : goal.decreases-both
decreases-both l = (length l.first + length l.second) - (l.i + l.j)
