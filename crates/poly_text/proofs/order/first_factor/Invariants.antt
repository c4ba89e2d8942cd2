use Rattle.std.proofs.Common.{◌≡◌, ◌≤◌, ◌-◌, drop, length}
use Rattle.poly_text.specs.Order.{first_factor}
use Rattle.poly_text.proofs.order.first_factor.Given as goal

abbrev pub invariant-factors : goal.invariant-factors
invariant-factors l = record {
  some : 1 ≤ l.at;
  same : first_factor 0 l.powers ≡ first_factor (l.at - 1) (drop (l.at - 1) l.powers);
}

abbrev pub decreases-factors : goal.decreases-factors
decreases-factors l = length l.powers - l.at
