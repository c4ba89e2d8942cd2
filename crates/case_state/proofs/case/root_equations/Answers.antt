use Rattle.std.proofs.Common.{rules}
use Rattle.case_state.proofs.Rooting.{rooted_more}
use Rattle.case_state.proofs.case.root_equations.Goals as goal

pub loop-poly-preserved : goal.loop-poly-preserved
loop-poly-preserved c = rooted_more c.loop-poly.equations.items _ c.args.root.now c.loop-poly.poly-index c.poly-item.result c.in_ok-copy.field-0 c.len.result c.loop-poly.invariant c.loop-poly-test.true c.poly-item.is c.in_ok-copy.ensures (search rules) c.in_ok-push.ensures.items
