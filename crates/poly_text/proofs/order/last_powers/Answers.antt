use Rattle.std.proofs.Common.{◌∙◌, ap, None, Some}
use Rattle.poly_text.proofs.Places.{last_read}
use Rattle.poly_text.proofs.order.last_powers.Goals as goal

pub returns-in-len1-up : goal.returns-in-len1-up
returns-in-len1-up c = ap Some c.as_slice.ensures.value ∙ last_read None c.args.terms.now c.last-item.result c.in-len1-up.len_at_least c.last-item.is
