use Rattle.case_history.proofs.Replays.{patterns_refuted}
use Rattle.case_history.proofs.laws.pattern_law.Goals as goal

pub returns-clause-refuted : goal.returns-clause-refuted
returns-clause-refuted g c root h k p replays is = patterns_refuted root h k p replays is

pub returns-clause-unsolved : goal.returns-clause-unsolved
returns-clause-unsolved g c s root h k p elements replays is =
    let r = patterns_refuted root h k p replays is in
    c.refutation_law.ensures s root p r.lines r.end elements r.refutes
