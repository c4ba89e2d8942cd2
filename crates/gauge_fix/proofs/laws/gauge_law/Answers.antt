use Rattle.gauge_fix.proofs.Fixed.{all_fixed}
use Rattle.gauge_fix.proofs.laws.gauge_law.Goals as goal

pub returns : goal.returns
returns g c r x gauge ps elements are = all_fixed g.F.CharZeroField.field g.F.CharZeroField.laws x elements r gauge ps are
