use Rattle.steal_workers.proofs.serial.settle_least.Goals as goal

pub run_case-requires-clause-belongs : goal.run_case-requires-clause-belongs
run_case-requires-clause-belongs c = rw (c.equations.ensures.equations, c.root.ensures.root) (c.case_law.ensures.belongs _ _ _ _ _ c.root.ensures.list c.in-Some.ensures.is)

pub run_case-requires-clause-within : goal.run_case-requires-clause-within
run_case-requires-clause-within c = rw c.budget.ensures.budget (c.case_law.ensures.few _ _ _ _ _ c.root.ensures.list c.in-Some.ensures.is)
