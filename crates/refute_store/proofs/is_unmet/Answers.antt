use Rattle.std.specs.Prelude.{◌≡◌, true, false}
use Rattle.std.proofs.Common.{arith, refl, sym, ◌∙◌}
use Rattle.std.proofs.lemmas.List.{length-map}
use Rattle.refute_store.proofs.Patterns.{unmet_more, all_unmet, met}
use Rattle.refute_store.proofs.is_unmet.Goals as goal

no : {A : Type 0} → false ≡ true → A
no e = cc

pub returns-then-is_within : goal.returns-then-is_within
returns-then-is_within g c = (λ e. no e, λ live. absurd (met _ _ _ _ _ (omega (arith, c.loop-j.auto)) c.set_of-p.ensures c.set_of-q.ensures (c.is_within.ensures.0 c.if-is_within.true) live))

pub loop-j-preserved : goal.loop-j-preserved
loop-j-preserved g c = unmet_more _ _ _ _ _ c.loop-j.invariant c.set_of-q.ensures (λ w. no (sym c.if-is_within.false ∙ c.is_within.ensures.1 w))

pub returns : goal.returns
returns g c = (λ _. all_unmet _ _ c.loop-j.j _ (rw length-map c.loop-j-test.false) c.set_of-p.ensures c.loop-j.invariant, λ _. refl)
