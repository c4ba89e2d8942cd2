use Rattle.legal_history.proofs.Grown.{legal_replays}
use Rattle.legal_history.proofs.laws.legal_law.Goals as goal

pub returns : goal.returns
returns c root budget h listed legal = legal_replays root budget (c.end_law.ensures root budget listed) h legal
