use Rattle.case_history.proofs.Accepted.{just_one_leaf}
use Rattle.case_history.proofs.laws.leaves_law.Goals as goal

pub returns : goal.returns
returns g c s root h elements replays complete = just_one_leaf root _ _ _ h replays complete (c.history_law.ensures s root h elements replays)
