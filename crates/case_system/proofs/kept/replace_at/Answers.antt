use Rattle.std.proofs.Common.{rules, List, ◌≡◌, length, sym, subst, ap, ◌∙◌, refl}
use Rattle.std.specs.Prelude.{insert, remove}
use Rattle.std.proofs.lemmas.List.{take_at}
use Rattle.case_rules.specs.declared.equation.Equation.{Equation}
use Rattle.case_rules.proofs.AddedEquations.{ascend_removed}
use Rattle.case_system.specs.Places.{Ascend, GoesTo}
use Rattle.case_system.specs.Facts.{HaveFacts}
use Rattle.case_system.specs.declared.kept.Facts.{Facts}
use Rattle.case_system.proofs.Placing.{added_placed}
use Rattle.case_system.proofs.Counting.{facts_both, facts_removed, facts_inserted}
use Rattle.case_system.proofs.kept.replace_at.Goals as goal

pub add_in_room-requires-clause-ascending : goal.add_in_room-requires-clause-ascending
add_in_room-requires-clause-ascending c = subst Ascend (sym c.remove-replaced.ensures.items) (ascend_removed c.args.list.now.equations.items c.args.q c.requires.ascending)

pub returns-in_default-clause-known : goal.returns-in_default-clause-known
returns-in_default-clause-known c = λ units clean own.
    c.add_in_room.ensures.known units
    (subst (λ es. HaveFacts units es c.remove-facts.new.self.items) (sym c.remove-replaced.ensures.items) (subst (HaveFacts units (remove c.args.list.now.equations.items c.args.q)) (sym c.remove-facts.ensures.items)
    (facts_removed units c.args.list.now.equations.items c.args.list.now.facts.items c.args.q clean)))
    own

pub returns-clause-added : goal.returns-clause-added
returns-clause-added c =
    let own : c.deref.result.now ≡ c.args.list.now.equations.items = search rules in
    let same : c.deref_mut.result.now ≡ c.args.list.now.equations.items = search rules in
    let long : length c.exchange-replaced.new.items ≡ c.args.list.now.equations.len = search rules in
    let goes : GoesTo c.args.kept.equation.poly (remove c.args.list.now.equations.items c.args.q) c.in-Some.to = subst (λ (es : List Equation). GoesTo c.args.kept.equation.poly (remove es c.args.q) c.in-Some.to) own c.in-Some.ensures.goes in
    take_at c.exchange-replaced.new.items _ _ long ∙ c.exchange-replaced.ensures.exchanged ∙ ap (λ (es : List Equation). insert (remove es c.args.q) c.in-Some.to c.args.kept.equation) same ∙
    sym (added_placed c.args.kept.equation (remove c.args.list.now.equations.items c.args.q) c.in-Some.ensures.nonzero ∙ goes.inserted c.args.kept.equation refl)

pub returns-clause-known : goal.returns-clause-known
returns-clause-known c = λ units clean own.
    let same : c.deref_mut.result.now ≡ c.args.list.now.equations.items = search rules in
    let same' : c.deref_mut-2.result.now ≡ c.args.list.now.facts.items = search rules in
    let long : length c.exchange-replaced.new.items ≡ c.args.list.now.equations.len = search rules in
    let long' : length c.exchange-facts.new.items ≡ c.args.list.now.facts.len = search rules in
    facts_both units _ _ _ _
    (take_at c.exchange-replaced.new.items _ _ long ∙ c.exchange-replaced.ensures.exchanged ∙ ap (λ (es : List Equation). insert (remove es c.args.q) c.in-Some.to c.args.kept.equation) same)
    (take_at c.exchange-facts.new.items _ _ long' ∙ c.exchange-facts.ensures.exchanged ∙ ap (λ (ks : List Facts). insert (remove ks c.args.q) c.in-Some.to c.args.kept.facts) same')
    (facts_inserted units (remove c.args.list.now.equations.items c.args.q) (remove c.args.list.now.facts.items c.args.q) c.in-Some.to c.args.kept.equation c.args.kept.facts
    (facts_removed units c.args.list.now.equations.items c.args.list.now.facts.items c.args.q clean) own)
