use Rattle.std.proofs.Common.{arith, ◌<◌, ◌≤◌, length, subst, All}
use Rattle.std.proofs.lemmas.List.{take_all}
use Rattle.std.proofs.lemmas.List.Elements.{All-more}
use Rattle.cert_text.specs.Numbers.{HasEntryInRange}
use Rattle.cert_text.specs.Sentences.{use_of}
use Rattle.cert_text.proofs.Loops.{entry_more}
use Rattle.cert_text.proofs.writer.push_entries.Goals as goal

pub entries-preserved : goal.entries-preserved
entries-preserved c =
    let lt : c.entries.entry-index < length c.args.entries.now = omega arith in
    record {
      text = entry_more (use_of c.args.table.now.keys) c.entries.into.items c.push_entry.new.into.items _ c.args.entries.now c.entries.entry-index c.entry-item.result lt c.entry-item.is c.in_ok-push_entry.ensures.text c.entries.invariant.text;
      numbers = All-more HasEntryInRange c.args.entries.now c.entries.entry-index c.entry-item.result lt c.entries.invariant.numbers (subst HasEntryInRange c.entry-item.is c.in_ok-push_entry.ensures.numbers);
    }

pub returns-clause-numbers : goal.returns-clause-numbers
returns-clause-numbers c =
    let end : length c.args.entries.now ≤ c.entries.entry-index = omega arith in
    subst (All HasEntryInRange) (take_all c.entries.entry-index c.args.entries.now end) c.entries.invariant.numbers
