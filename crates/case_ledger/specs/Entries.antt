-- The history of a board by what it keeps: the refutations of posts stand in the store of patterns.
use Rattle.std.specs.Prelude.{◌<◌, ℕ, List, [], map, reverse, slice_index_or, All}
use Rattle.derive_lines.specs.declared.parts.Item.TheVariants as item
use Rattle.refute_cert.specs.Parts.{RefutationParts}
use Rattle.leaf_cert.specs.declared.certificate.RawEntry.{RawEntry}
use Rattle.leaf_cert.specs.declared.certificate.RawEntry.TheVariants.{Split as split, Close as close}
use Rattle.case_history.specs.History.{publish}
use Rattle.legal_history.specs.Legal.{post}
use Rattle.case_ledger.specs.declared.entries.Kept.{Kept}
use Rattle.case_ledger.specs.declared.entries.Kept.TheVariants.{Split, Post, Close, Publish}

-- what is read where the store has no refutation of a number
abbrev pub no_refutation : RefutationParts
no_refutation = record { pattern = []; lines = []; end = item.Root 0 }

-- a kept entry as an entry of the history
abbrev pub entry_of : List RefutationParts → Kept → RawEntry
entry_of stored (Split n by) = split n by
entry_of stored (Post k) = post (slice_index_or stored k no_refutation)
entry_of stored (Close n k) = close n k
entry_of stored (Publish n leaf) = publish n leaf

-- kept entries as entries, the oldest first
abbrev pub entries_of : List RefutationParts → List Kept → List RawEntry
entries_of stored entries = map (entry_of stored) entries

-- the history, the newest entry first
abbrev pub history_of : List RefutationParts → List Kept → List RawEntry
history_of stored entries = reverse (entries_of stored entries)

-- the refutation of a post is one of n
abbrev pub IsPosted : ℕ → Kept → Type 0
IsPosted n (Split m by) = Unit {0}
IsPosted n (Post k) = k < n
IsPosted n (Close m k) = Unit {0}
IsPosted n (Publish m leaf) = Unit {0}

-- the refutation of each post is one of n
abbrev pub ArePosted : ℕ → List Kept → Type 0
ArePosted n entries = All (IsPosted n) entries
