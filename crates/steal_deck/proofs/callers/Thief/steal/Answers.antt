use Rattle.steal_deck.proofs.Moves.{takes}
use Rattle.steal_deck.proofs.callers.Thief.steal.Goals as goal

pub steal_as-requires-clause-takes : goal.steal_as-requires-clause-takes
steal_as-requires-clause-takes c = takes _ _
