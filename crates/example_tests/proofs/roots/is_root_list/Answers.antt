use Rattle.std.proofs.Common.{arith}
use Rattle.example_tests.proofs.Rooting.{whole_list}
use Rattle.example_tests.proofs.roots.is_root_list.Goals as goal

pub returns : goal.returns
returns c = λ t. whole_list c.args.polys.now c.loop-i.i (omega arith) c.loop-i.invariant
