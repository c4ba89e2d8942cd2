use Rattle.std.proofs.Common.{◌≡◌, drop, ◌++◌, map}
use Rattle.monomial.specs.Keys.{power_of}
use Rattle.monomial.proofs.keys.listed.Given as goal

abbrev pub invariant-loop-key : goal.invariant-loop-key
invariant-loop-key l = map power_of l.keys ≡ l.powers.items ++ map power_of (drop l.key-index l.keys)
