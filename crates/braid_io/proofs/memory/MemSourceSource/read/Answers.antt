use Rattle.std.proofs.Common.{arith, length-drop}
use Rattle.std.proofs.lemmas.Grind.{common_steps}
use Rattle.braid_io.proofs.Slices.{front_read, none_left}
use Rattle.braid_io.proofs.memory.MemSourceSource.read.Goals as goal

pub returns-clause-bytes : goal.returns-clause-bytes
returns-clause-bytes c =
    let n = c.min-count.result in
    let s = c.self.inside.start in
    let bytes = c.self.inside.bytes.items in
    (rw (← c.self.view_is) (front_read s n bytes c.args.into.now c.copy_from_slice.new.self (grind (arith, common_steps)) (omega (arith, length-drop s bytes))), λ z h. none_left s n bytes (omega (arith, length-drop s bytes)))
