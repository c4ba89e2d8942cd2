use Rattle.sparse_poly.proofs.Units.{unit_value}
use Rattle.sparse_poly.proofs.laws.unit_law.Goals as goal

pub returns : goal.returns
returns g c s units ps p h u = unit_value g.F.CharZeroField.field g.F.CharZeroField.laws s p units ps h u
