use Rattle.ring_file.proofs.Parts.{f_if_short, f_if_long}
use Rattle.ring_file.proofs.symbols.f_symbol.Goals as goal

pub returns-in_default : goal.returns-in_default
returns-in_default c = f_if_short c.args.parts.now c.in_default.len_below

pub returns-in_default-3 : goal.returns-in_default-3
returns-in_default-3 c = f_if_long c.args.parts.now c.in_default.len_at_least
