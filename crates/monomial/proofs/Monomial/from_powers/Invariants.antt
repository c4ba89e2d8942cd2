use Rattle.std.proofs.Common.{◌≡◌, drop, ◌++◌}
use Rattle.monomial.proofs.Monomial.from_powers.Given as goal

abbrev pub invariant-loop-power : goal.invariant-loop-power
invariant-loop-power l = l.powers ≡ l.list ++ drop l.power-index l.powers
