use Rattle.std.proofs.Common.{◌≡◌, ◌++◌, ◌∷◌, [], ◌∙◌, ap, sym, subst}
use Rattle.case_system.specs.Marks.{AreMarked}
use Rattle.case_system.proofs.Marking.{marked_more}
use Rattle.case_system.proofs.conditions.Conditions.with.Goals as goal

pub invariant_of-result : goal.invariant_of-result
invariant_of-result c =
    let polys : c.push.new.self.items ≡ c.polys.inside.polys.items ++ c.args.poly.now ∷ [] = c.in_ok-push.ensures.items ∙ ap (λ p. c.polys.inside.polys.items ++ p ∷ []) c.in_ok-copy.ensures in
    subst (λ ps. AreMarked ps c.push-2.new.self.items) (sym polys)
    (subst (AreMarked (c.polys.inside.polys.items ++ c.args.poly.now ∷ [])) (sym c.in_ok-push-2.ensures.items)
    (marked_more c.polys.inside.polys.items c.polys.inside.in_form.items c.args.poly.now c.is_in_form.result c.polys.invariant c.is_in_form.ensures))
