use Rattle.sparse_poly.proofs.Evaluation.{product_value}
use Rattle.sparse_poly.proofs.laws.product_law.Goals as goal

pub returns : goal.returns
returns g c s ps qs r p h = product_value g.F.CharZeroField.field g.F.CharZeroField.laws s p ps qs r h
