-- The summary of a certificate: seven lines with its counts.
use Rattle.std.specs.Prelude.{ℕ, Bool, true, false, List, ◌++◌, codes, decimal, reverse}
use Rattle.std.specs.List.{count_by}
use Rattle.leaf_cert.specs.declared.certificate.RawEntry.{RawEntry}
use Rattle.leaf_cert.specs.declared.certificate.RawEntry.TheVariants as entry
use Rattle.leaf_cert.specs.declared.certificate.Certificate.{Certificate}
use Rattle.case_history.specs.History.{cases_made}
use Rattle.case_history.specs.Counts.{leaf_count, open_count}
use Rattle.cert_summary.specs.declared.counting.EntryKind.{EntryKind}
use Rattle.cert_summary.specs.declared.counting.EntryKind.TheVariants.{Split, Post, Close}

-- the entry is of this kind
abbrev pub is_of : EntryKind → RawEntry → Bool
is_of Split (entry.Split n by) = true
is_of Post (entry.Post ds ls end) = true
is_of Close (entry.Close n k) = true
is_of kind e = false

-- how many entries are of this kind
abbrev pub kind_count : EntryKind → List RawEntry → ℕ
kind_count kind entries = count_by (is_of kind) entries

-- a word and a number
abbrev pub count_line : List ℕ → ℕ → List ℕ
count_line word n = word ++ (codes " " ++ (decimal n ++ codes "\n"))

-- the unknowns and equations of the root, and all cases that were made
abbrev pub size_lines : Certificate → List ℕ
size_lines c = count_line (codes "unknowns") c.unknowns ++ (count_line (codes "equations") c.equations ++ count_line (codes "cases") (cases_made (reverse c.entries)))

-- the cases that a pattern closed, the patterns, the leaves, and the open ones among them
abbrev pub end_lines : Certificate → List ℕ
end_lines c =
    count_line (codes "closed") (kind_count Close c.entries) ++ (count_line (codes "patterns") (kind_count Post c.entries)
    ++ (count_line (codes "leaves") (leaf_count c.entries) ++ count_line (codes "open") (open_count c.entries)))

-- the seven lines
abbrev pub summary_text : Certificate → List ℕ
summary_text c = size_lines c ++ end_lines c
