-- What breaks the order.
use Rattle.std.specs.Prelude.{ℕ}

-- a term, or a factor of a term, by their numbers from 0
pub data Disorder : Type 0 where
  TermAt : ℕ → Disorder
  FactorAt : ℕ → ℕ → Disorder
