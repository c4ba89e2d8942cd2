use Rattle.std.specs.Prelude.{◌≡◌, [], drop, flat_map}
use Rattle.cert_text.specs.Tables.{with_new, entry_lines}
use Rattle.cert_text.proofs.tables.tabulated.Given as goal

-- the entries that are left lead to the table that is to come
abbrev pub invariant-entries : goal.invariant-entries
invariant-entries l = with_new l.table.keys (flat_map entry_lines (drop l.entry-index l.entries)) ≡ with_new [] (flat_map entry_lines l.entries)
