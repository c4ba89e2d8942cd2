use Rattle.std.proofs.Common.{take}
use Rattle.symbol_index.specs.Appended.{IsAppended}
use Rattle.symbol_index.proofs.unknowns.append.Given as goal

abbrev pub invariant-loop-t : goal.invariant-loop-t
invariant-loop-t g l = IsAppended (goal.F-post g l.symbol) l.initial.list.items (take l.t-index l.tuples) l.list.items
