use Rattle.std.proofs.Common.{below_more, arith, sym, ◌∙◌}
use Rattle.std.proofs.lemmas.Bool.{true≢false}
use Rattle.std.proofs.lemmas.List.{get_or_default}
use Rattle.case_history.proofs.within.is_among.Goals as goal

pub loop-other-preserved : goal.loop-other-preserved
loop-other-preserved c = below_more _ _ c.loop-other.invariant (λ e. true≢false (sym (c.is_decision.ensures.1 (c.other-item.is ∙ get_or_default c.args.decisions.now c.loop-other.other-index c.other-item.result c.args.decision.now c.loop-other-test.true ∙ e)) ∙ c.if-is_decision.false))

pub returns : goal.returns
returns c = (λ w. absurd (true≢false (sym w)), λ is. absurd (c.loop-other.invariant is.0 (omega (arith, is.1)) is.2))
