use Rattle.std.specs.Prelude.{◌≡◌, true, false}
use Rattle.std.proofs.Common.{sym, ◌∙◌, below_more}
use Rattle.std.proofs.lemmas.List.{length-map}
use Rattle.refute_store.proofs.Patterns.{not_here, not_live, least_here, none_left}
use Rattle.refute_store.proofs.find_in.Goals as goal

no : {A : Type 0} → false ≡ true → A
no e = cc

pub loop-k-preserved-then-not-is_within : goal.loop-k-preserved-then-not-is_within
loop-k-preserved-then-not-is_within g c = below_more _ _ c.loop-k.invariant (not_here _ _ _ _ c.set_of-p.ensures (λ w. no (sym c.if-not-is_within.true ∙ c.is_within.ensures.1 w)))

pub loop-k-preserved : goal.loop-k-preserved
loop-k-preserved g c = below_more _ _ c.loop-k.invariant (not_live _ _ _ (λ l. no (sym c.if-is_unmet.false ∙ c.is_unmet.ensures.1 l)))

pub returns-then-is_unmet : goal.returns-then-is_unmet
returns-then-is_unmet g c = least_here _ _ _ _ c.set_of-p.ensures (c.is_within.ensures.0 c.if-not-is_within.false) (c.is_unmet.ensures.0 c.if-is_unmet.true) c.loop-k.invariant

pub returns : goal.returns
returns g c = none_left _ c.loop-k.k _ (rw length-map c.loop-k-test.false) c.loop-k.invariant
