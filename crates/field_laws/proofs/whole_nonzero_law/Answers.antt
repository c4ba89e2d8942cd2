use Rattle.field_laws.proofs.FieldSteps.{whole_is, whole_apart}
use Rattle.field_laws.proofs.whole_nonzero_law.Goals as goal

pub returns-clause-element : goal.returns-clause-element
returns-clause-element g c = whole_is g.F.CharZeroField.field g.F.CharZeroField.laws

pub returns-clause-nonzero : goal.returns-clause-nonzero
returns-clause-nonzero g c = whole_apart g.F.CharZeroField.field g.F.CharZeroField.laws
