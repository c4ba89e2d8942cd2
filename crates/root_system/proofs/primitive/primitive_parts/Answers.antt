use Rattle.std.proofs.Common.{rules}
use Rattle.root_system.proofs.Parts.{parts_push, parts_skip, parts_whole}
use Rattle.root_system.proofs.primitive.primitive_parts.Goals as goal

pub loop-poly-preserved-then-is_zero : goal.loop-poly-preserved-then-is_zero
loop-poly-preserved-then-is_zero c = parts_skip _ _ _ _ _ c.loop-poly-test.true c.poly-item.is c.loop-poly.invariant c.in_ok-part.ensures (c.is_zero.ensures.0 (search rules))

pub loop-poly-preserved : goal.loop-poly-preserved
loop-poly-preserved c = parts_push _ _ _ _ _ _ c.loop-poly-test.true c.poly-item.is c.loop-poly.invariant c.in_ok-part.ensures (search rules) c.in_ok-push.ensures.items

pub returns : goal.returns
returns c = parts_whole _ _ _ c.loop-poly-test.false c.loop-poly.invariant
