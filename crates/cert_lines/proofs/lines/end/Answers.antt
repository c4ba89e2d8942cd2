use Rattle.std.proofs.Common.{refl}
use Rattle.cert_lines.specs.declared.kind.Kind.TheVariants.{End}
use Rattle.cert_lines.proofs.Noted.{field_more, line_said}
use Rattle.cert_lines.proofs.lines.end.Goals as goal

pub returns : goal.returns
returns c u = line_said End _ _ c.judge.result c.of-fields.ensures.fields c.of-fields.ensures.notes (field_more (c.word.ensures u) (field_more (c.item-item.ensures u) (c.end.ensures u))) refl (λ x. x.1.0) c.judge.ensures
