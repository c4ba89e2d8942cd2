use Rattle.std.proofs.Common.{arith}
use Rattle.std.proofs.lemmas.Grind.{common_steps}
use Rattle.braid_io.proofs.Moved.{TookUpTo-after}
use Rattle.braid_io.proofs.whole.read_all.Goals as goal

pub returns-in-Err-clause-part : goal.returns-in-Err-clause-part
returns-in-Err-clause-part g c = TookUpTo-after _ _ _ _ _ _ c.reading.invariant.taken c.in-Err.ensures.part (grind (arith, common_steps))
