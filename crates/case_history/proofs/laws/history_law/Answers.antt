use Rattle.case_history.proofs.Meanings.{meaning}
use Rattle.case_history.proofs.Ends.{at_just_one}
use Rattle.case_history.proofs.laws.history_law.Goals as goal

pub returns : goal.returns
returns g c s root h elements replays =
    at_just_one root _ _ _ (meaning g.F.CharZeroField.field root s c.decide_law.ensures
    (λ ds ls end. c.refutation_law.ensures s root ds ls end elements) (λ l. c.leaf_law.ensures s root l elements)) h replays
