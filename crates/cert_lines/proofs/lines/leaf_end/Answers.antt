use Rattle.std.proofs.Common.{refl}
use Rattle.cert_lines.proofs.Noted.{field_more, by_word, by_other, retext}
use Rattle.cert_lines.proofs.lines.leaf_end.Goals as goal

pub returns-then-passes : goal.returns-then-passes
returns-then-passes c = retext refl (λ x. (tt, tt)) (by_word refl (c.passes.ensures.passed c.if-passes.true) c.passes.ensures.notes (c.end.ensures c.args.unknowns))

pub returns : goal.returns
returns c =
    let u = c.args.unknowns in
    retext refl (λ x. x.1) (by_other (c.passes.ensures.other c.if-passes.false) c.passes.ensures.notes (field_more (c.word.ensures u) c.in_ok-cause.ensures))
