use Rattle.std.proofs.Common.{◌≤◌, length}
use Rattle.symbol_equations.specs.Differences.{AreTheirSummands}
use Rattle.symbol_equations.proofs.summands.Given as goal

abbrev pub invariant-loop-label : goal.invariant-loop-label
invariant-loop-label g l = record {
  products : AreTheirSummands (goal.F-post g l.product) l.label l.products.items;
  few : length l.products.items ≤ l.label;
}
