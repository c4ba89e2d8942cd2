-- How a case stands on a board before it is settled.
use Rattle.std.specs.Prelude.{◌≤◌, ℕ}
use Rattle.refute_store.specs.Live.{IsLeastLiveWithin, HasNoneWithin}
use Rattle.case_history.specs.History.{cases_made, patterns, decisions_of, IsPending}
use Rattle.case_ledger.specs.State.{BoardState}
use Rattle.case_ledger.specs.Board.{IsSettledAt}
use Rattle.case_ledger.specs.declared.board.Standing.{Standing}
use Rattle.case_ledger.specs.declared.board.Standing.TheVariants.{NoCase, Settled, Covered, Uncovered}

-- whether case n is pending, and then whether a live pattern is within its decisions
abbrev pub IsStanding : BoardState → ℕ → Standing → Type 0
IsStanding b n NoCase = cases_made b.history ≤ n
IsStanding b n (Settled at) = IsSettledAt b.history n at
IsStanding b n (Covered k) = IsPending b.history n × IsLeastLiveWithin (patterns b.history) (decisions_of b.history n) k
IsStanding b n Uncovered = IsPending b.history n × HasNoneWithin (patterns b.history) (decisions_of b.history n)
