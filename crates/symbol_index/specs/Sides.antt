-- The rows and the columns of the matrix of the F of a, b, c and d.
use Rattle.std.specs.Prelude.{ℕ, Bool, ◌&&◌}
use Rattle.fusion_ring.specs.Fusion.{Fusion, channel}
use Rattle.symbol_index.specs.declared.Symbol.{Symbol}
use Rattle.symbol_index.specs.declared.sides.Side.{Side}
use Rattle.symbol_index.specs.declared.sides.Side.TheVariants.{Rows, Columns}
use Rattle.symbol_index.specs.Symbols.{fsym, ginv}

-- x is a row, N(a,b,x) = N(x,c,d) = 1, or a column, N(b,c,x) = N(a,x,d) = 1, of the matrix of a, b, c and d
abbrev pub is_on : Side → Fusion → ℕ × ℕ × ℕ × ℕ → ℕ → Bool
is_on Rows r t x = channel r t.0 t.1 x && channel r x t.2 t.3
is_on Columns r t x = channel r t.1 t.2 x && channel r t.0 x t.3

abbrev pub opposite : Side → Side
opposite Rows = Columns
opposite Columns = Rows

-- F by its row and its column, or G by its column and its row
abbrev pub entry : Side → ℕ × ℕ × ℕ × ℕ × ℕ × ℕ → Symbol
entry Rows = fsym
entry Columns = ginv
