use Rattle.std.proofs.Common.{refl}
use Rattle.cert_lines.specs.declared.kind.Kind.TheVariants.{Decided}
use Rattle.cert_lines.proofs.Noted.{field_more, line_said}
use Rattle.cert_lines.proofs.lines.decided.Goals as goal

pub returns : goal.returns
returns c =
    let u = c.args.unknowns in
    line_said Decided _ _ c.judge.result c.of-fields.ensures.fields c.of-fields.ensures.notes (field_more (c.one_of-zero.ensures u) (field_more c.in_ok-poly.ensures (c.end.ensures u))) refl (λ x. x.1.0) c.judge.ensures
