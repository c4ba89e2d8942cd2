use Rattle.std.proofs.Common.{◌≡◌, ◌≤◌, ◌-◌, drop, length}
use Rattle.std.specs.Cmp.Lexicographic.{slice_cmp}
use Rattle.std.specs.Ordering.{nat_cmp}
use Rattle.monomial.proofs.keys.order_of_keys.Given as goal

abbrev pub invariant-keys : goal.invariant-keys
invariant-keys l = record {
  first_in : l.i ≤ length l.first;
  second_in : l.i ≤ length l.second;
  same : slice_cmp (λ k m. nat_cmp k.word m.word) (drop l.i l.first) (drop l.i l.second) ≡ slice_cmp (λ k m. nat_cmp k.word m.word) l.first l.second;
}

abbrev pub decreases-keys : goal.decreases-keys
decreases-keys l = length l.first - l.i
