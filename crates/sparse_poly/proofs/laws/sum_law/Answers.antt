use Rattle.sparse_poly.proofs.Evaluation.{sum_value}
use Rattle.sparse_poly.proofs.laws.sum_law.Goals as goal

pub returns : goal.returns
returns g c s ps qs r p h = sum_value g.F.CharZeroField.field g.F.CharZeroField.laws s p ps qs r h
