use Rattle.std.proofs.Common.{sym, subst}
use Rattle.case_rules.specs.Kept.{added}
use Rattle.case_system.specs.Facts.{HaveFacts}
use Rattle.case_system.proofs.Counting.{facts_place, facts_added}
use Rattle.case_system.proofs.kept.add_in_room.Goals as goal

pub add_facts-requires-clause-place : goal.add_facts-requires-clause-place
add_facts-requires-clause-place c = facts_place c.args.list.now.equations.items c.args.list.now.facts.items c.args.kept.equation.poly c.add_equation-place.result c.add_equation-place.ensures.place c.requires.facts

pub returns-clause-known : goal.returns-clause-known
returns-clause-known c = λ units clean own.
    subst (λ es. HaveFacts units es c.add_facts.new.list.items) (sym c.add_equation-place.ensures.added)
    (subst (λ ks. HaveFacts units (added c.args.kept.equation c.args.list.now.equations.items) ks) (sym c.add_facts.ensures)
    (facts_added units c.args.list.now.equations.items c.args.list.now.facts.items c.args.kept.equation c.args.kept.facts c.add_equation-place.result c.add_equation-place.ensures.place clean own))
