use Rattle.legal_history.proofs.Works.{step_works}
use Rattle.legal_history.proofs.laws.work_law.Goals as goal

pub returns : goal.returns
returns c root budget h more listed legal step = step_works root budget (c.end_law.ensures root budget listed) h more legal step
