-- A fusion ring without multiplicities, as a number of labels and a table.
use Rattle.std.specs.Prelude.{ℕ, ◌+◌, ◌*◌, Bool, false, ◌&&◌, nat_lt, List, slice_index_or}

-- labels 0, 1, .. labels - 1, and the numbers N(a,b,c) in the lexicographic order of (a,b,c)
pub record Fusion : Type 0 where
  pub labels : ℕ
  pub table : List Bool

-- N(a,b,c) = 1: c is a channel of the product of a and b; it is 0 where one of them is no label
abbrev pub channel : Fusion → ℕ → ℕ → ℕ → Bool
channel r a b c = (nat_lt a r.labels && nat_lt b r.labels && nat_lt c r.labels) && slice_index_or r.table ((a * r.labels + b) * r.labels + c) false
