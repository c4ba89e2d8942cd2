use Rattle.std.proofs.Common.{◌≡◌, ◌++◌, drop, vec_len, map, Some}
use Rattle.serde_json.specs.View.{items_view}
use Rattle.ring_file.specs.Named.{written_entry}
use Rattle.ring_file.specs.Files.{list_of, first_failing, entry_checks, entry_of}
use Rattle.ring_file.proofs.file.entries.Given as goal

abbrev pub invariant-items : goal.invariant-items
invariant-items l = record {
  form : first_failing (entry_checks 0 (list_of (items_view l.items))) ≡ first_failing (entry_checks (vec_len l.entries) (list_of (items_view (drop l.item-index l.items))));
  read : map entry_of (list_of (items_view l.items)) ≡ map Some (map written_entry l.entries.items) ++ map entry_of (list_of (items_view (drop l.item-index l.items)));
}
