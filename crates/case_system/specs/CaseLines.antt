-- The lines of a case.
use Rattle.std.specs.Prelude.{◌≡◌, ◌<◌, ◌^◌, ℕ, List, ◌++◌, length, flat_map}
use Rattle.derive_lines.specs.declared.parts.Line.{Line}

-- those that it shares with other cases and those that are its own, each the oldest first
pub record LinesState : Type 0 where
  pub shared : List Line
  pub own : List Line

abbrev pub all_lines : LinesState → List Line
all_lines s = s.shared ++ s.own

-- the lines of segments, one after the other
abbrev pub joined : List (List Line) → List Line
joined segments = flat_map (λ segment. segment) segments

-- so many lines are shared, and their number is in range
pub record IsCounted (n : ℕ) (shared : List Line) : Type 0 where
  pub count : n ≡ length shared
  pub small : n < 2 ^ 63
