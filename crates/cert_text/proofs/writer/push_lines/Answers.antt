use Rattle.std.proofs.Common.{◌∙◌, ◌++◌, ap, arith, ◌<◌, length}
use Rattle.cert_text.specs.declared.sentence.Sentence.TheVariants as says
use Rattle.cert_text.specs.Fields.{ended, line_fields}
use Rattle.cert_text.proofs.Loops.{line_more}
use Rattle.cert_text.proofs.writer.push_lines.Goals as goal

pub lines-preserved : goal.lines-preserved
lines-preserved c =
    let lt : c.lines.line-index < length c.args.lines.now = omega arith in
    line_more says.Derived c.lines.into.items c.push_line.new.into.items _ c.args.lines.now c.lines.line-index c.line-item.result lt c.line-item.is (c.in_ok-push_line.ensures.text ∙ ap (λ x. c.lines.into.items ++ ended (line_fields x)) c.line.ensures) c.lines.invariant
