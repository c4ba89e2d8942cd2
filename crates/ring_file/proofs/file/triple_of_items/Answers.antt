use Rattle.ring_file.proofs.Parts.{triple_if_short, triple_if_long}
use Rattle.ring_file.proofs.file.triple_of_items.Goals as goal

pub returns-in_default : goal.returns-in_default
returns-in_default c = triple_if_short c.args.parts.now c.in_default.len_below

pub returns-in_default-2 : goal.returns-in_default-2
returns-in_default-2 c = triple_if_long c.args.parts.now c.in_default.len_at_least
