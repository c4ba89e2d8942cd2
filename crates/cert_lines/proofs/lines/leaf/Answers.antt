use Rattle.std.proofs.Common.{refl}
use Rattle.cert_lines.specs.declared.kind.Kind.TheVariants.{Leaf}
use Rattle.cert_lines.proofs.Noted.{field_more, line_said}
use Rattle.cert_lines.proofs.lines.leaf.Goals as goal

pub returns : goal.returns
returns c =
    let u = c.args.unknowns in
    line_said Leaf _ _ c.judge.result c.of-fields.ensures.fields c.of-fields.ensures.notes (field_more (c.word.ensures u) (field_more (c.number-n.ensures.read u) c.in_ok-end.ensures)) refl (λ x. (x.1.0, x.1.1.0, x.1.1.1)) c.judge.ensures
