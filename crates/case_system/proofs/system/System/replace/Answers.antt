use Rattle.std.proofs.Common.{sym, subst}
use Rattle.case_rules.proofs.AddedEquations.{ascend_removed, ascend_added}
use Rattle.case_system.specs.Places.{Ascend}
use Rattle.case_system.proofs.Counting.{facts_length}
use Rattle.case_system.proofs.system.System.replace.Goals as goal

pub replace_at-requires-clause-facts : goal.replace_at-requires-clause-facts
replace_at-requires-clause-facts c = facts_length c.self.inside.conditions c.self.inside.list.equations.items c.self.inside.list.facts.items c.self.invariant.known

pub invariant_of-self : goal.invariant_of-self
invariant_of-self c = record {
  ascending = subst Ascend (sym c.replace_at.ensures.added) (ascend_added c.in_ok-rest.rest.equation _ (ascend_removed c.self.inside.list.equations.items c.args.q c.self.invariant.ascending));
  known = c.replace_at.ensures.known c.self.inside.conditions c.self.invariant.known c.in_ok-rest.ensures.known;
}
