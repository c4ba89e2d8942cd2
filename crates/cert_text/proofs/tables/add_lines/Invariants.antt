use Rattle.std.specs.Prelude.{◌≡◌, drop}
use Rattle.cert_text.specs.Tables.{with_new}
use Rattle.cert_text.proofs.tables.add_lines.Given as goal

-- the lines that are left lead to the table that is to come
abbrev pub invariant-lines : goal.invariant-lines
invariant-lines l = with_new l.table.keys (drop l.line-index l.lines) ≡ with_new l.initial.table.keys l.lines
