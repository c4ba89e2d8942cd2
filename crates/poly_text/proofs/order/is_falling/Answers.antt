use Rattle.poly_text.proofs.Places.{falling_read}
use Rattle.poly_text.proofs.order.is_falling.Goals as goal

pub returns-in-len1-up : goal.returns-in-len1-up
returns-in-len1-up c = falling_read c.args.powers.now c.args.variable c.in-len1-up.len_at_least
