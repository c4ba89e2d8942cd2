use Rattle.steal_deck.proofs.Moves.{begins, admits}
use Rattle.steal_deck.proofs.steps.deck.Goals as goal

pub fifo_as-requires : goal.fifo_as-requires
fifo_as-requires c = begins

pub pass-pass-requires : goal.pass-pass-requires
pass-pass-requires c = admits
