use Rattle.std.proofs.Common.{◌∙◌, ap, arith, ◌<◌, length}
use Rattle.cert_text.specs.Tables.{with_new}
use Rattle.cert_text.proofs.Tabled.{entry_tabled}
use Rattle.cert_text.proofs.tables.tabulated.Goals as goal

pub entries-preserved : goal.entries-preserved
entries-preserved c =
    let lt : c.entries.entry-index < length c.args.entries.now = omega arith in
    entry_tabled c.entries.table.keys c.add_lines.new.table.keys _ c.args.entries.now c.entries.entry-index c.entry-item.result lt c.entry-item.is
    (c.in_ok-add_lines.ensures ∙ ap (λ ls. with_new c.entries.table.keys ls) c.used_lines.ensures) c.entries.invariant
