use Rattle.std.specs.Prelude.{◌≡◌, take}
use Rattle.std.specs.List.{count_by}
use Rattle.case_history.specs.Counts.{is_leaf}
use Rattle.case_history.proofs.counting.leaf_count.Given as goal

-- the leaves so far
abbrev pub invariant-loop-entry : goal.invariant-loop-entry
invariant-loop-entry l = l.count ≡ count_by is_leaf (take l.entry-index l.entries)
