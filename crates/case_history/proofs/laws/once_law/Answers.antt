use Rattle.case_history.proofs.Replays.{pending_or_settled, pending_unsettled, settled_once, settled_was_made}
use Rattle.case_history.proofs.laws.once_law.Goals as goal

pub returns-clause-each : goal.returns-clause-each
returns-clause-each c root h n replays made = pending_or_settled h n made

pub returns-clause-apart : goal.returns-clause-apart
returns-clause-apart c = pending_unsettled

pub returns-clause-once : goal.returns-clause-once
returns-clause-once c = settled_once

pub returns-clause-made : goal.returns-clause-made
returns-clause-made c = settled_was_made
