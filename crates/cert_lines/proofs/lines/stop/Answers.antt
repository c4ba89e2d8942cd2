use Rattle.std.proofs.Common.{refl}
use Rattle.cert_lines.proofs.Noted.{field_more, retext}
use Rattle.cert_lines.proofs.lines.stop.Goals as goal

pub returns : goal.returns
returns c =
    let u = c.args.unknowns in
    retext refl (λ x. (record { q = x.1.1.0.0; p = x.1.1.1.0.0 }, record { v = x.1.0; q = x.1.1.0.1; p = x.1.1.1.0.1 }))
    (field_more (c.step-step.ensures u) (field_more c.variable-v.ensures (field_more c.in_ok-q.ensures (field_more c.in_ok-p.ensures (c.end.ensures u)))))
