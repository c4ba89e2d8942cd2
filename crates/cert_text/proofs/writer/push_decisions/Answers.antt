use Rattle.std.proofs.Common.{arith, ◌<◌, ◌≤◌, length, subst, All}
use Rattle.std.proofs.lemmas.List.{take_all}
use Rattle.std.proofs.lemmas.List.Elements.{All-more}
use Rattle.cert_text.specs.Numbers.{HasDecisionInRange}
use Rattle.cert_text.specs.declared.sentence.Sentence.TheVariants as says
use Rattle.cert_text.proofs.Loops.{line_more}
use Rattle.cert_text.proofs.writer.push_decisions.Goals as goal

pub decisions-preserved : goal.decisions-preserved
decisions-preserved c =
    let lt : c.decisions.decision-index < length c.args.decisions.now = omega arith in
    record {
      text = line_more says.Decided c.decisions.into.items c.push_decision.new.into.items _ c.args.decisions.now c.decisions.decision-index c.decision-item.result lt c.decision-item.is c.in_ok-push_decision.ensures.text c.decisions.invariant.text;
      numbers = All-more HasDecisionInRange c.args.decisions.now c.decisions.decision-index c.decision-item.result lt c.decisions.invariant.numbers (subst HasDecisionInRange c.decision-item.is c.in_ok-push_decision.ensures.numbers);
    }

pub returns-clause-numbers : goal.returns-clause-numbers
returns-clause-numbers c =
    let end : length c.args.decisions.now ≤ c.decisions.decision-index = omega arith in
    subst (All HasDecisionInRange) (take_all c.decisions.decision-index c.args.decisions.now end) c.decisions.invariant.numbers
