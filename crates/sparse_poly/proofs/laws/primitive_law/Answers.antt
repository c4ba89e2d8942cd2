use Rattle.sparse_poly.proofs.Evaluation.{scaled_vanishes}
use Rattle.sparse_poly.proofs.laws.primitive_law.Goals as goal

pub returns : goal.returns
returns g c s ps qs p h = scaled_vanishes g.F.CharZeroField.field g.F.CharZeroField.laws s p h.content ps qs h.nonzero h.product
