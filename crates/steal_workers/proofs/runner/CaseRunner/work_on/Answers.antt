use Rattle.std.proofs.Common.{subst}
use Rattle.case_rules.specs.Belonging.{IsRootList}
use Rattle.steal_workers.proofs.runner.CaseRunner.work_on.Goals as goal

pub run-requires-clause-belongs : goal.run-requires-clause-belongs
run-requires-clause-belongs g c =
    let look = rw c.in-Pending.is at c.in_ok-pending.ensures.look in
    let listed = subst IsRootList c.requires.root.equations c.equations-list.ensures.list in
    rw (c.case.ensures, c.requires.root.equations) (c.case_law.ensures.belongs _ _ _ _ _ listed look.is)

pub run-requires-clause-within : goal.run-requires-clause-within
run-requires-clause-within g c =
    let look = rw c.in-Pending.is at c.in_ok-pending.ensures.look in
    let listed = subst IsRootList c.requires.root.equations c.equations-list.ensures.list in
    rw (c.case.ensures, c.requires.root.budget) (c.case_law.ensures.few _ _ _ _ _ listed look.is)
