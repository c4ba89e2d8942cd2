use Rattle.std.proofs.Common.{arith, ◌<◌, ◌≤◌, length, subst, All}
use Rattle.std.proofs.lemmas.List.{take_all}
use Rattle.std.proofs.lemmas.List.Elements.{All-more}
use Rattle.cert_text.specs.Numbers.{HasLineInRange}
use Rattle.cert_text.specs.Sentences.{use_of}
use Rattle.cert_text.proofs.Loops.{line_more}
use Rattle.cert_text.proofs.writer.push_uses.Goals as goal

pub lines-preserved : goal.lines-preserved
lines-preserved c =
    let lt : c.lines.line-index < length c.args.lines.now = omega arith in
    record {
      text = line_more (use_of c.args.table.now.keys) c.lines.into.items c.push_use.new.into.items _ c.args.lines.now c.lines.line-index c.line-item.result lt c.line-item.is c.in_ok-push_use.ensures.text c.lines.invariant.text;
      numbers = All-more HasLineInRange c.args.lines.now c.lines.line-index c.line-item.result lt c.lines.invariant.numbers (subst HasLineInRange c.line-item.is c.push_use.ensures.numbers);
    }

pub returns-clause-numbers : goal.returns-clause-numbers
returns-clause-numbers c =
    let end : length c.args.lines.now ≤ c.lines.line-index = omega arith in
    subst (All HasLineInRange) (take_all c.lines.line-index c.args.lines.now end) c.lines.invariant.numbers
