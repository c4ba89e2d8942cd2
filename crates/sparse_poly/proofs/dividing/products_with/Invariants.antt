use Rattle.std.proofs.Common.{take}
use Rattle.sparse_poly.specs.Dividing.{IsRow}
use Rattle.sparse_poly.proofs.dividing.products_with.Given as goal

abbrev pub invariant-loop-other : goal.invariant-loop-other
invariant-loop-other l = IsRow l.term (take l.other-index l.others) l.row.items
