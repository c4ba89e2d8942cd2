use Rattle.symbol_equations.proofs.Vanishing.{vanishes}
use Rattle.symbol_equations.proofs.laws.difference_law.Goals as goal

pub returns : goal.returns
returns g c r x left right p elements d = vanishes g.F.CharZeroField.field g.F.CharZeroField.laws x elements r left right p d
