use Rattle.std.proofs.Common.{refl}
use Rattle.cert_lines.specs.declared.kind.Kind.TheVariants.{Split}
use Rattle.cert_lines.proofs.Noted.{field_more, line_said}
use Rattle.cert_lines.proofs.lines.split.Goals as goal

pub returns : goal.returns
returns c =
    let u = c.args.unknowns in
    line_said Split _ _ c.judge.result c.of-fields.ensures.fields c.of-fields.ensures.notes (field_more (c.word.ensures u) (field_more (c.number-n.ensures.read u) (field_more c.in_ok-by.ensures (c.end.ensures u)))) refl
    (λ x. (record { case_number = x.1.0; poly = x.1.1.0.0 }, x.1.1.0.1)) c.judge.ensures
