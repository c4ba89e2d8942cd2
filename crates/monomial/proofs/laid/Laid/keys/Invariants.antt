use Rattle.std.proofs.Common.{◌≡◌, ◌≤◌, ◌-◌, ◌++◌, length, map}
use Rattle.monomial.specs.Keys.{power_of}
use Rattle.monomial.specs.Layouts.{lanes, monomial_of}
use Rattle.monomial.proofs.laid.Laid.keys.Given as goal

abbrev pub invariant-loop-i : goal.invariant-loop-i
invariant-loop-i l = record {
  room : length l.keys.items ≤ l.i;
  made : map power_of l.keys.items ++ monomial_of (lanes (8 - l.i) l.variables) l.word ≡ l.fn.self;
}
