use Rattle.root_system.proofs.OneRoot.{one_root}
use Rattle.root_system.proofs.laws.one_root_law.Goals as goal

pub returns : goal.returns
returns c p qs rs a b = one_root p qs rs a b
