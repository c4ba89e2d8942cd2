use Rattle.std.proofs.Common.{take}
use Rattle.std.specs.Prelude.{All}
use Rattle.char_set.specs.Triangular.{IsDecided}
use Rattle.char_set.proofs.are_decided.Given as goal

abbrev pub invariant-loop-poly : goal.invariant-loop-poly
invariant-loop-poly l = All (IsDecided l.units) (take l.poly-index l.list)
