use Rattle.std.proofs.Common.{ap, refl, ◌∷◌, codes, if◌then◌else◌}
use Rattle.cert_text.specs.Fields.{stop_fields}
use Rattle.cert_lines.proofs.Noted.{field_more, by_word, by_other, retext}
use Rattle.cert_lines.proofs.lines.cause.Goals as goal

pub returns-then-passes : goal.returns-then-passes
returns-then-passes c = retext refl (λ x. (tt, tt)) (by_word refl (c.passes.ensures.passed c.if-passes.true) c.passes.ensures.notes (c.end.ensures c.args.unknowns))

pub returns-then-coefficient : goal.returns-then-coefficient
returns-then-coefficient c =
    let u = c.args.unknowns in
    retext (ap (λ b. (if b then codes "coefficient" else codes "degree") ∷ stop_fields c.in_ok-stopped.stopped) c.if-coefficient.true) (λ x. x.1)
    (by_other (c.passes.ensures.other c.if-passes.false) c.passes.ensures.notes (field_more (c.one_of-coefficient.ensures u) c.in_ok-stopped.ensures))

pub returns-else-coefficient : goal.returns-else-coefficient
returns-else-coefficient c =
    let u = c.args.unknowns in
    retext (ap (λ b. (if b then codes "coefficient" else codes "degree") ∷ stop_fields c.in_ok-stopped.stopped) c.if-coefficient.false) (λ x. x.1)
    (by_other (c.passes.ensures.other c.if-passes.false) c.passes.ensures.notes (field_more (c.one_of-coefficient.ensures u) c.in_ok-stopped.ensures))
