use Rattle.std.specs.Prelude.{◌≡◌}
use Rattle.std.specs.Vec.{vec_len}
use Rattle.steal_workers.proofs.worker_decks.own_decks.Given as goal

-- a deck and a thief for each worker so far
abbrev pub invariant-loop-worker : goal.invariant-loop-worker
invariant-loop-worker l = (vec_len l.decks ≡ l.worker) × (vec_len l.firsts ≡ l.worker)
