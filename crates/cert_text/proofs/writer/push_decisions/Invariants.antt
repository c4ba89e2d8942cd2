use Rattle.std.proofs.Common.{◌≡◌, ◌++◌, map, drop, take, All}
use Rattle.cert_text.specs.declared.sentence.Sentence.TheVariants as says
use Rattle.cert_text.specs.Sentences.{spelled}
use Rattle.cert_text.specs.Numbers.{HasDecisionInRange}
use Rattle.cert_text.proofs.writer.push_decisions.Given as goal

abbrev pub invariant-decisions : goal.invariant-decisions
invariant-decisions l = record {
  text : l.into.items ++ spelled (map says.Decided (drop l.decision-index l.decisions)) ≡ l.initial.into.items ++ spelled (map says.Decided l.decisions);
  numbers : All HasDecisionInRange (take l.decision-index l.decisions);
}
