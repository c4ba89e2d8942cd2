use Rattle.monomial.proofs.Masks.{small_lanes}
use Rattle.monomial.proofs.laid.has_small_lanes.Goals as goal

pub returns : goal.returns
returns c = small_lanes c.args.word
