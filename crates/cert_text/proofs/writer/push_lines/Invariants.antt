use Rattle.std.proofs.Common.{◌≡◌, ◌++◌, map, drop}
use Rattle.cert_text.specs.declared.sentence.Sentence.TheVariants as says
use Rattle.cert_text.specs.Sentences.{spelled}
use Rattle.cert_text.proofs.writer.push_lines.Given as goal

abbrev pub invariant-lines : goal.invariant-lines
invariant-lines l = l.into.items ++ spelled (map says.Derived (drop l.line-index l.lines)) ≡ l.initial.into.items ++ spelled (map says.Derived l.lines)
