use Rattle.steal_deck.proofs.Moves.{pushes}
use Rattle.steal_deck.proofs.callers.Owner.push.Goals as goal

pub push_as-requires-clause-pushes : goal.push_as-requires-clause-pushes
push_as-requires-clause-pushes c = pushes _ _ _ c.args.self.now.owns
