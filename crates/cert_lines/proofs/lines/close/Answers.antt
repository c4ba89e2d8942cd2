use Rattle.std.proofs.Common.{refl}
use Rattle.cert_lines.specs.declared.kind.Kind.TheVariants.{Close}
use Rattle.cert_lines.proofs.Noted.{field_more, line_said}
use Rattle.cert_lines.proofs.lines.close.Goals as goal

pub returns : goal.returns
returns c u = line_said Close _ _ c.judge.result c.of-fields.ensures.fields c.of-fields.ensures.notes (field_more (c.word.ensures u) (field_more (c.number-n.ensures.read u) (field_more (c.number-k.ensures.read u) (c.end.ensures u)))) refl
    (λ x. record { case_number = x.1.0; pattern = x.1.1.0 }) c.judge.ensures
