use Rattle.std.proofs.Common.{◌≡◌, ◌≤◌, []}
use Rattle.std.specs.declared.option.Option.TheVariants.{None}
use Rattle.monomial.specs.Layouts.{lanes}
use Rattle.monomial.specs.Readings.{left_powers}
use Rattle.monomial.proofs.Placings.{pending, Placing}
use Rattle.monomial.proofs.placed_word.Given as goal

abbrev pub invariant-lanes : goal.invariant-lanes
invariant-lanes l = record {
  placing : Placing l.layout l.monomial (lanes l.place l.variables) (pending l.power (left_powers l.left)) l.word;
  none : l.power ≡ None → left_powers l.left ≡ [];
  within : l.place ≤ 8;
}

abbrev pub decreases-lanes : goal.decreases-lanes
decreases-lanes l = l.place
