use Rattle.std.proofs.Common.{◌≡◌, ◌++◌, map, drop, take, All}
use Rattle.cert_text.specs.Sentences.{use_of, spelled}
use Rattle.cert_text.specs.Numbers.{HasLineInRange}
use Rattle.cert_text.proofs.writer.push_uses.Given as goal

abbrev pub invariant-lines : goal.invariant-lines
invariant-lines l = record {
  text : l.into.items ++ spelled (map (use_of l.table.keys) (drop l.line-index l.lines)) ≡ l.initial.into.items ++ spelled (map (use_of l.table.keys) l.lines);
  numbers : All HasLineInRange (take l.line-index l.lines);
}
