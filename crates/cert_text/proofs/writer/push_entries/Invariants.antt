use Rattle.std.proofs.Common.{◌≡◌, ◌++◌, drop, take, All}
use Rattle.std.specs.Prelude.{flat_map}
use Rattle.cert_text.specs.Sentences.{entry_sentences, use_of, spelled}
use Rattle.cert_text.specs.Numbers.{HasEntryInRange}
use Rattle.cert_text.proofs.writer.push_entries.Given as goal

abbrev pub invariant-entries : goal.invariant-entries
invariant-entries l = record {
  text : l.into.items ++ spelled (flat_map (entry_sentences (use_of l.table.keys)) (drop l.entry-index l.entries)) ≡ l.initial.into.items ++ spelled (flat_map (entry_sentences (use_of l.table.keys)) l.entries);
  numbers : All HasEntryInRange (take l.entry-index l.entries);
}
