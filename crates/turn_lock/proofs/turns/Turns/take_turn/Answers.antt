use Rattle.std.proofs.Common.{◌∙◌}
use Rattle.turn_lock.proofs.turns.Turns.take_turn.Goals as goal

pub try_turn-requires : goal.try_turn-requires
try_turn-requires g c = let r = c.requires in (c.loop.invariant.2 ∙ r.0, (r.1.0, c.loop.invariant.3 ∙ r.1.1, r.1.2, r.1.3))
