use Rattle.sparse_poly.proofs.Evaluation.{eval-same}
use Rattle.sparse_poly.proofs.laws.value_law.Goals as goal

pub returns : goal.returns
returns g c s ps qs p h = eval-same g.F.CharZeroField.field g.F.CharZeroField.laws s p ps qs h
