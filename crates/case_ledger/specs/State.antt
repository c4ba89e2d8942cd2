-- What contracts see of a board.
use Rattle.std.specs.Prelude.{ℕ, List, ◌∷◌}
use Rattle.root_system.specs.Forms.{RootEquations}
use Rattle.leaf_cert.specs.declared.certificate.RawEntry.{RawEntry}

-- the root, the budget of moves of each case, and the history, the newest entry first
pub record BoardState : Type 0 where
  pub root : RootEquations
  pub budget : ℕ
  pub history : List RawEntry

-- the board with one more entry
abbrev pub with_entry : BoardState → RawEntry → BoardState
with_entry b e = record { root = b.root; budget = b.budget; history = e ∷ b.history }
