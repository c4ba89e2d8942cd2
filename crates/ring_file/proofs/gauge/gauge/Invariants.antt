use Rattle.std.proofs.Common.{◌≡◌, ◌++◌, drop, map}
use Rattle.ring_file.specs.Problems.{IsGauge}
use Rattle.ring_file.specs.Reading.{in_file}
use Rattle.ring_file.specs.Named.{valued_entry}
use Rattle.ring_file.proofs.gauge.gauge.Given as goal

abbrev pub invariant-entries : goal.invariant-entries
invariant-entries l = record {
  same : map valued_entry l.entries ≡ map in_file l.gauge.items ++ map valued_entry (drop l.entry-index l.entries);
  valid : IsGauge l.ring l.gauge.items;
}
