use Rattle.std.proofs.Common.{take}
use Rattle.sparse_poly.specs.Packing.{AllFit}
use Rattle.sparse_poly.proofs.layout.all_fit.Given as goal

abbrev pub invariant-loop-term : goal.invariant-loop-term
invariant-loop-term l = AllFit l.layout (take l.term-index l.terms)
