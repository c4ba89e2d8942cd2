use Rattle.std.proofs.Common.{◌≡◌, drop, ◌++◌}
use Rattle.monomial.proofs.keys.same_keys.Given as goal

abbrev pub invariant-loop-key : goal.invariant-loop-key
invariant-loop-key l = l.keys ≡ l.same.items ++ drop l.key-index l.keys
