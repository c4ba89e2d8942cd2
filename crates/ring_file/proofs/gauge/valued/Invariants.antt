use Rattle.std.proofs.Common.{◌≡◌, ◌++◌, ◌≤◌, drop, map}
use Rattle.std.specs.Prelude.{unsigned_abs}
use Rattle.std.specs.List.{All}
use Rattle.sparse_poly.specs.Contributions.{max_coeff}
use Rattle.ring_file.specs.Named.{written_entry, valued_entry}
use Rattle.ring_file.proofs.gauge.valued.Given as goal

abbrev pub invariant-entries : goal.invariant-entries
invariant-entries l = record {
  same : map written_entry l.entries ≡ map valued_entry l.valued.items ++ map written_entry (drop l.entry-index l.entries);
  in_range : All (λ e. unsigned_abs e.value ≤ max_coeff) l.valued.items;
}
