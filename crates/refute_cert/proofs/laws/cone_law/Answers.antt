use Rattle.refute_cert.proofs.OneCone.{one_cone}
use Rattle.refute_cert.proofs.laws.cone_law.Goals as goal

pub returns : goal.returns
returns c root ds ls end cone other h k = one_cone root ds ls end cone other h k
