-- How many leaves a list of entries has, and how many of them are open.
use Rattle.std.specs.Prelude.{ℕ, Bool, true, false, List}
use Rattle.std.specs.List.{count_by}
use Rattle.leaf_cert.specs.declared.ends.LeafEnd.{LeafEnd}
use Rattle.leaf_cert.specs.declared.ends.LeafEnd.TheVariants.{Triangular, Open}
use Rattle.leaf_cert.specs.declared.certificate.RawEntry.{RawEntry}
use Rattle.leaf_cert.specs.declared.certificate.RawEntry.TheVariants.{Split, Post, Close, Publish}

-- an end is open
abbrev pub is_open : LeafEnd → Bool
is_open Triangular = false
is_open (Open cause) = true

-- an entry publishes a leaf
abbrev pub is_leaf : RawEntry → Bool
is_leaf (Split n by) = false
is_leaf (Post ds ls end) = false
is_leaf (Close n k) = false
is_leaf (Publish n ds ls es end) = true

-- an entry publishes an open leaf
abbrev pub is_open_leaf : RawEntry → Bool
is_open_leaf (Split n by) = false
is_open_leaf (Post ds ls end) = false
is_open_leaf (Close n k) = false
is_open_leaf (Publish n ds ls es end) = is_open end

-- how many entries publish a leaf, and how many an open one
abbrev pub leaf_count : List RawEntry → ℕ
leaf_count entries = count_by is_leaf entries

abbrev pub open_count : List RawEntry → ℕ
open_count entries = count_by is_open_leaf entries
