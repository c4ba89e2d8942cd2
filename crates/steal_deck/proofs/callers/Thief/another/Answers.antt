use Rattle.steal_deck.proofs.Moves.{admits}
use Rattle.steal_deck.proofs.callers.Thief.another.Goals as goal

pub pass-pass-requires : goal.pass-pass-requires
pass-pass-requires c = admits
