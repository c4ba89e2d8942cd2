use Rattle.std.specs.Prelude.{Contains}
use Rattle.std.proofs.Common.{below_more, arith, refl, ◌∙◌, subst}
use Rattle.std.proofs.lemmas.List.{get_or_default}
use Rattle.cert_check.proofs.path.are_among.Goals as goal

pub loop-decision-preserved : goal.loop-decision-preserved
loop-decision-preserved c = below_more _ _ c.loop-decision.invariant (λ d. subst (Contains c.args.choices.now) (c.decision-item.is ∙ get_or_default c.args.decisions.now c.loop-decision.decision-index c.decision-item.result d c.loop-decision-test.true) (c.is_among.ensures.0 c.if-not-is_among.false))

pub returns : goal.returns
returns c = (λ _ d is. subst (Contains c.args.choices.now) is.2 (c.loop-decision.invariant is.0 (omega (arith, is.1)) d), λ _. refl)
