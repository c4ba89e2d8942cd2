use Rattle.std.specs.Prelude.{Contains}
use Rattle.std.proofs.Common.{below_more, arith, refl, ◌∙◌, subst}
use Rattle.std.proofs.lemmas.List.{get_or_default}
use Rattle.refute_store.proofs.is_within.Goals as goal

pub loop-d-preserved : goal.loop-d-preserved
loop-d-preserved c = below_more _ _ c.loop-d.invariant (c.contains.ensures.0 c.if-not-contains.false)

pub returns : goal.returns
returns c = (λ _ d is. subst (Contains c.args.q.now) (get_or_default c.args.p.now is.0 0 d is.1 ∙ is.2) (c.loop-d.invariant is.0 (omega (arith, is.1))), λ _. refl)
