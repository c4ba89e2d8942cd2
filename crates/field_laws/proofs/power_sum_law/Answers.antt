use Rattle.field_laws.proofs.FieldSteps.{power-add}
use Rattle.field_laws.proofs.power_sum_law.Goals as goal

pub returns : goal.returns
returns g c = power-add g.F.CharZeroField.field g.F.CharZeroField.laws
