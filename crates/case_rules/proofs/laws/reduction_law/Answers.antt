use Rattle.case_rules.proofs.Holding.{at_reduced}
use Rattle.case_rules.proofs.laws.reduction_law.Goals as goal

pub returns : goal.returns
returns g c = λ root s d q p v e r. at_reduced g.F.CharZeroField.field s root d q p v e r
