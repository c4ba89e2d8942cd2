use Rattle.leaf_cert.proofs.StoppedSteps.{heavy_degree, heavy_heavy}
use Rattle.leaf_cert.proofs.ending.is_heavy.Goals as goal

pub returns-in-Degree : goal.returns-in-Degree
returns-in-Degree c = λ cs f. heavy_degree cs c.args.fault.now _ c.in-Degree.is f

pub returns-in-Heavy : goal.returns-in-Heavy
returns-in-Heavy c = λ cs f. heavy_heavy cs c.args.fault.now _ c.in-Heavy.is f
