use Rattle.legal_history.proofs.PlainTree.{tree_leaves}
use Rattle.legal_history.proofs.laws.tree_law.Goals as goal

pub returns : goal.returns
returns c root budget h listed legal = tree_leaves root budget (c.end_law.ensures root budget listed) h legal
