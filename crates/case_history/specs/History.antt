-- A history is a list of entries, the newest first. What it makes of cases and patterns.
use Rattle.std.specs.Prelude.{◌≡◌, ◌<◌, ◌==◌, ℕ, Bool, true, false, List, [], ◌∷◌, ◌++◌, length, slice_index_or, if◌then◌else◌}
use Rattle.std.specs.declared.option.Option.{Option}
use Rattle.std.specs.declared.option.Option.TheVariants.{None, Some}
use Rattle.derive_lines.specs.declared.parts.Decision.{Decision}
use Rattle.derive_lines.specs.Refuting.{decided}
use Rattle.leaf_cert.specs.Parts.{LeafParts}
use Rattle.leaf_cert.specs.declared.certificate.RawEntry.{RawEntry}
use Rattle.leaf_cert.specs.declared.certificate.RawEntry.TheVariants.{Split, Post, Close, Publish}

-- the entry that publishes a leaf of case n
abbrev pub publish : ℕ → LeafParts → RawEntry
publish n leaf = Publish n leaf.decisions leaf.lines leaf.equations leaf.end

-- the entry settles case n: it splits it, closes it or publishes its leaf
abbrev pub settles : RawEntry → ℕ → Bool
settles (Split m by) n = m == n
settles (Post ds ls end) n = false
settles (Close m k) n = m == n
settles (Publish m ds ls es end) n = m == n

-- an entry at its place, counted from the oldest
pub record Placed : Type 0 where
  pub place : ℕ
  pub entry : RawEntry

-- the entry that settled case n
abbrev pub fate : List RawEntry → ℕ → Option Placed
fate [] n = None
fate (e ∷ before) n = if settles e n then Some (record { place = length before; entry = e }) else fate before n

-- the decisions of each case that was made, in the order of their numbers: there is case 0, without decisions, and a split makes the next two
abbrev pub case_decisions : List RawEntry → List (List Decision)
case_decisions [] = [] ∷ []
case_decisions (Split n by ∷ before) = case_decisions before ++ decided (slice_index_or (case_decisions before) n []) by true ∷ decided (slice_index_or (case_decisions before) n []) by false ∷ []
case_decisions (Post ds ls end ∷ before) = case_decisions before
case_decisions (Close n k ∷ before) = case_decisions before
case_decisions (Publish n ds ls es end ∷ before) = case_decisions before

-- how many cases were made
abbrev pub cases_made : List RawEntry → ℕ
cases_made h = length (case_decisions h)

-- the decisions of case n
abbrev pub decisions_of : List RawEntry → ℕ → List Decision
decisions_of h n = slice_index_or (case_decisions h) n []

-- the patterns, in the order of their numbers
abbrev pub patterns : List RawEntry → List (List Decision)
patterns [] = []
patterns (Split n by ∷ before) = patterns before
patterns (Post ds ls end ∷ before) = patterns before ++ ds ∷ []
patterns (Close n k ∷ before) = patterns before
patterns (Publish n ds ls es end ∷ before) = patterns before

-- case n was made, and no entry settled it
pub record IsPending (h : List RawEntry) (n : ℕ) : Type 0 where
  pub made : n < cases_made h
  pub unsettled : fate h n ≡ None

-- case n is the least pending one
pub record IsLeastPending (h : List RawEntry) (n : ℕ) : Type 0 where
  pub pending : IsPending h n
  pub least : (m : ℕ) → m < n → IsPending h m → ⊥

-- no case is pending
abbrev pub IsComplete : List RawEntry → Type 0
IsComplete h = (n : ℕ) → IsPending h n → ⊥
