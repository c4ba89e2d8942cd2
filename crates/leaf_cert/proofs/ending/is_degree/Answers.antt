use Rattle.leaf_cert.proofs.StoppedSteps.{high_degree, high_heavy}
use Rattle.leaf_cert.proofs.ending.is_degree.Goals as goal

pub returns-in-Degree : goal.returns-in-Degree
returns-in-Degree c = λ cs f. high_degree cs c.args.fault.now _ c.in-Degree.is f

pub returns-in-Heavy : goal.returns-in-Heavy
returns-in-Heavy c = λ cs f. high_heavy cs c.args.fault.now _ c.in-Heavy.is f
