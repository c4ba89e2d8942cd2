use Rattle.std.specs.Prelude.{◌≡◌, take}
use Rattle.case_ledger.specs.Entries.{entries_of}
use Rattle.case_ledger.proofs.entries.raw_entries.Given as goal

abbrev pub invariant-loop-entry : goal.invariant-loop-entry
invariant-loop-entry l = l.all.items ≡ entries_of l.stored (take l.entry-index l.entries)
