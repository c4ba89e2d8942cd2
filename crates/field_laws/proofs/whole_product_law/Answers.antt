use Rattle.field_laws.proofs.FieldSteps.{whole-*ℤ}
use Rattle.field_laws.proofs.whole_product_law.Goals as goal

pub returns : goal.returns
returns g c = whole-*ℤ g.F.CharZeroField.field g.F.CharZeroField.laws
