use Rattle.std.proofs.Common.{◌≡◌, take}
use Rattle.std.specs.Prelude.{map}
use Rattle.fusion_ring.specs.Listed.{is_product}
use Rattle.fusion_ring.proofs.table.Table.stated.Given as goal

abbrev pub invariant-loop-t : goal.invariant-loop-t
invariant-loop-t l = l.numbers.items ≡ map (is_product l.products) (take l.t-index l.t-items)
