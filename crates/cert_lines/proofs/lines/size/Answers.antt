use Rattle.std.proofs.Common.{refl}
use Rattle.cert_lines.specs.declared.kind.Kind.TheVariants.{Lines}
use Rattle.cert_lines.proofs.Noted.{line_said}
use Rattle.cert_lines.proofs.lines.size.Goals as goal

pub returns : goal.returns
returns c u = line_said Lines _ _ c.judge.result c.of-fields.ensures.fields c.of-fields.ensures.notes (c.count-number.ensures.read u) refl (λ x. x) c.judge.ensures
