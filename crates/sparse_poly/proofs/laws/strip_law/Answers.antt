use Rattle.sparse_poly.proofs.Evaluation.{product_value}
use Rattle.sparse_poly.proofs.laws.strip_law.Goals as goal

pub returns : goal.returns
returns g c s units ps factor rest p h = product_value g.F.CharZeroField.field g.F.CharZeroField.laws s p factor rest ps h.product
