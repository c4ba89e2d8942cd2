use Rattle.sparse_poly.proofs.Units.{cleared_value}
use Rattle.sparse_poly.proofs.laws.clear_law.Goals as goal

pub returns : goal.returns
returns g c s units ps factor rest p h = cleared_value g.F.CharZeroField.field g.F.CharZeroField.laws s p units ps factor rest h
