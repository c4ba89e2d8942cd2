use Rattle.sparse_poly.proofs.Evaluation.{combined_value}
use Rattle.sparse_poly.proofs.laws.combined_law.Goals as goal

pub returns : goal.returns
returns g c s ls qs bs ps r p h = combined_value g.F.CharZeroField.field g.F.CharZeroField.laws s p ls qs bs ps r h
