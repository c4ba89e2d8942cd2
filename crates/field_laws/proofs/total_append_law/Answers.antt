use Rattle.field_laws.proofs.FieldSteps.{total-append}
use Rattle.field_laws.proofs.total_append_law.Goals as goal

pub returns : goal.returns
returns g c = total-append g.F.CharZeroField.field g.F.CharZeroField.laws
