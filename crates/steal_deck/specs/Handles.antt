-- What a clause says of an owner, a thief, and what a steal came to.
use Rattle.std.specs.Prelude.{◌≡◌, ℕ}
use Rattle.crossbeam_deque.specs.Handles.{view, taken, worker_deque, worker_view, stealer_deque}
use Rattle.steal_deck.specs.declared.rule.Known.{Known}
use Rattle.steal_deck.specs.declared.callers.Owner.{Owner}
use Rattle.steal_deck.specs.declared.callers.Thief.{Thief}
use Rattle.steal_deck.specs.declared.callers.Stolen.{Stolen}
use Rattle.steal_deck.specs.declared.callers.Stolen.TheVariants.{Got, Empty, Again}

-- what the owner knows
abbrev pub owner_knows : Owner → Known
owner_knows o = worker_view o.worker

-- what a thief knows
abbrev pub thief_knows : Thief → Known
thief_knows t = view t.pass

-- how many taken numbers the thief's handle knows of
abbrev pub taken_seen : Thief → ℕ
taken_seen t = taken t.pass

-- the owner still has the same deck, with the same first capacity
abbrev pub IsSameDeck : Owner → Owner → Type 0
IsSameDeck o o' = (worker_deque o'.worker ≡ worker_deque o.worker) × (o'.first_capacity ≡ o.first_capacity)

-- the thief steals from the owner's deck
abbrev pub IsThiefOf : Owner → Thief → Type 0
IsThiefOf o t = stealer_deque t.stealer ≡ worker_deque o.worker

-- both steal from one deck
abbrev pub AreOfOneDeck : Thief → Thief → Type 0
AreOfOneDeck t t' = stealer_deque t'.stealer ≡ stealer_deque t.stealer

-- by cases on what a steal came to: nothing was left, another was first, or a number
abbrev pub MatchStolen : Stolen → Type 0 → Type 0 → (ℕ → Type 0) → Type 0
MatchStolen (Got n) empty again got = got n
MatchStolen Empty empty again got = empty
MatchStolen Again empty again got = again
