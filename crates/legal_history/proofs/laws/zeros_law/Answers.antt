use Rattle.legal_history.proofs.laws.zeros_law.Goals as goal

pub returns-clause-cases : goal.returns-clause-cases
returns-clause-cases g c s root budget h elements listed legal = c.history_law.ensures s root h elements (c.legal_law.ensures root budget h listed legal)

pub returns-clause-leaves : goal.returns-clause-leaves
returns-clause-leaves g c s root budget h elements listed legal complete = c.leaves_law.ensures s root h elements (c.legal_law.ensures root budget h listed legal) complete
