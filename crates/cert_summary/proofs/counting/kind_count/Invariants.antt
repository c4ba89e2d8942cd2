use Rattle.std.specs.Prelude.{◌≡◌, take}
use Rattle.std.specs.List.{count_by}
use Rattle.cert_summary.specs.Summary.{is_of}
use Rattle.cert_summary.proofs.counting.kind_count.Given as goal

-- those so far
abbrev pub invariant-loop-entry : goal.invariant-loop-entry
invariant-loop-entry l = l.count ≡ count_by (is_of l.kind) (take l.entry-index l.entries)
