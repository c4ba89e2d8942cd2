use Rattle.std.proofs.Common.{take}
use Rattle.root_system.specs.PrimitiveParts.{ArePrimitiveParts}
use Rattle.root_system.proofs.primitive.primitive_parts.Given as goal

abbrev pub invariant-loop-poly : goal.invariant-loop-poly
invariant-loop-poly l = ArePrimitiveParts (take l.poly-index l.polys) l.parts.items
