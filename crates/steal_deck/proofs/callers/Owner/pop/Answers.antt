use Rattle.steal_deck.proofs.Moves.{owner_takes}
use Rattle.steal_deck.proofs.callers.Owner.pop.Goals as goal

pub pop_as-requires-clause-fifo : goal.pop_as-requires-clause-fifo
pop_as-requires-clause-fifo c = λ _. owner_takes _ _ c.args.self.now.owns
