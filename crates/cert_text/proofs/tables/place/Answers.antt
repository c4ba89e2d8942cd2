use Rattle.std.proofs.Common.{◌∙◌}
use Rattle.cert_text.specs.Tables.{is_same}
use Rattle.cert_text.proofs.Tabled.{place_or_length}
use Rattle.cert_text.proofs.tables.place.Goals as goal

pub returns : goal.returns
returns c = c.unwrap_or-i.ensures ∙ rw (c.get_index_of.ensures.index, c.len.ensures.len, c.of.ensures) (place_or_length (is_same c.args.line.now) c.args.table.now.keys)
