use Rattle.std.proofs.Common.{◌≡◌, ◌++◌, length}
use Rattle.monomial.specs.Readings.{left_powers}
use Rattle.poly_text.specs.Text.{more_factors}
use Rattle.poly_text.proofs.writer.push_more_factors.Given as goal

abbrev pub invariant-factors : goal.invariant-factors
invariant-factors l = l.into.items ++ more_factors (left_powers l.powers) ≡ l.initial.into.items ++ more_factors (left_powers l.fn.powers)

abbrev pub decreases-factors : goal.decreases-factors
decreases-factors l = length (left_powers l.powers)
