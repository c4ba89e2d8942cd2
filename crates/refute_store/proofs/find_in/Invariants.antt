use Rattle.std.specs.Prelude.{ℕ, ◌<◌, map}
use Rattle.refute_store.specs.Live.{IsLiveWithin}
use Rattle.refute_store.proofs.find_in.Given as goal

-- no pattern before k is live and within the list
abbrev pub invariant-loop-k : goal.invariant-loop-k
invariant-loop-k g l = (j : ℕ) → j < l.k → IsLiveWithin (map (λ p. p.set.items) l.patterns) l.sorted j → ⊥
