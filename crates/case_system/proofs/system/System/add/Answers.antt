use Rattle.case_system.proofs.Counting.{facts_length}
use Rattle.case_system.proofs.system.System.add.Goals as goal

pub add-requires-clause-facts : goal.add-requires-clause-facts
add-requires-clause-facts c = facts_length c.self.inside.conditions c.self.inside.list.equations.items c.self.inside.list.facts.items c.self.invariant.known
