use Rattle.field_laws.proofs.FieldSteps.{whole-neg_ℤ}
use Rattle.field_laws.proofs.whole_negation_law.Goals as goal

pub returns : goal.returns
returns g c = whole-neg_ℤ g.F.CharZeroField.field g.F.CharZeroField.laws
