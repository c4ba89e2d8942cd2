-- A board as the value under a lock: its origin, and its history with the oldest entry first.
use Rattle.std.specs.Prelude.{◌≡◌, List, ◌++◌, reverse}
use Rattle.leaf_cert.specs.declared.certificate.RawEntry.{RawEntry}
use Rattle.case_ledger.specs.State.{BoardState}
use Rattle.case_ledger.specs.declared.kept_board.BoardOrigin.{BoardOrigin}

-- the root and the budget
abbrev pub origin_of : BoardState → BoardOrigin
origin_of b = record { root = b.root; budget = b.budget }

-- the history, the oldest entry first
abbrev pub oldest_first : BoardState → List RawEntry
oldest_first b = reverse b.history

-- the board of this root and budget after this history, the oldest entry first
abbrev pub board_after : BoardOrigin → List RawEntry → BoardState
board_after o h = record { root = o.root; budget = o.budget; history = reverse h }

-- the board goes on from the other: it has the same root and budget, and its history begins with the other's
pub record Continues (b new : BoardState) : Type 0 where
  pub root_is : new.root ≡ b.root
  pub budget_is : new.budget ≡ b.budget
  pub more : List RawEntry
  pub history_is : new.history ≡ more ++ b.history
