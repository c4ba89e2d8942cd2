use Rattle.std.proofs.Common.{refl}
use Rattle.cert_lines.specs.declared.kind.Kind.TheVariants.{Equation}
use Rattle.cert_lines.proofs.Noted.{field_more, line_said}
use Rattle.cert_lines.proofs.lines.equation.Goals as goal

pub returns : goal.returns
returns c =
    let u = c.args.unknowns in
    line_said Equation _ _ c.judge.result c.of-fields.ensures.fields c.of-fields.ensures.notes (field_more (c.word.ensures u) (field_more c.in_ok-poly.ensures (c.end.ensures u))) refl (λ x. x.1.0) c.judge.ensures
