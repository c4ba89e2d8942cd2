use Rattle.std.proofs.Common.{refl}
use Rattle.cert_lines.specs.declared.kind.Kind.TheVariants.{Derived}
use Rattle.cert_lines.proofs.Noted.{field_more, line_said}
use Rattle.cert_lines.proofs.lines.derived.Goals as goal

pub returns : goal.returns
returns c =
    let u = c.args.unknowns in
    line_said Derived _ _ c.judge.result c.of-fields.ensures.fields c.of-fields.ensures.notes
    (field_more (c.way-way.ensures u) (field_more (c.reference-from.ensures u) (field_more (c.reference-by.ensures u)
    (field_more c.in_ok-l.ensures (field_more c.in_ok-a.ensures (field_more c.in_ok-m.ensures (field_more c.in_ok-made.ensures (c.end.ensures u)))))))) refl
    (λ x. let p = x.1.1.1 in
    (record { from = x.1.0; by = x.1.1.0; l = p.0.0; a = p.1.0.0; m = p.1.1.0.0; made = p.1.1.1.0.0 }, record { l = p.0.1; a = p.1.0.1; m = p.1.1.0.1; made = p.1.1.1.0.1 }))
    c.judge.ensures
