use Rattle.std.proofs.Common.{refl}
use Rattle.cert_lines.specs.declared.kind.Kind.TheVariants.{Title}
use Rattle.cert_lines.proofs.Noted.{field_more, line_said}
use Rattle.cert_lines.proofs.lines.title.Goals as goal

pub returns : goal.returns
returns c u = line_said Title _ _ c.judge.result c.of-fields.ensures.fields c.of-fields.ensures.notes (field_more (c.word.ensures u) (field_more (c.version-version.ensures u) (c.end.ensures u))) refl (λ x. tt) c.judge.ensures
