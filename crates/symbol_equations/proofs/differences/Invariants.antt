use Rattle.std.proofs.Common.{take}
use Rattle.symbol_equations.specs.Differences.{AreTheirDifferences}
use Rattle.symbol_equations.proofs.differences.Given as goal

abbrev pub invariant-loop-at : goal.invariant-loop-at
invariant-loop-at g l = AreTheirDifferences l.symbols (goal.F-post g l.sides) (take l.at-index l.labels) l.found.items
