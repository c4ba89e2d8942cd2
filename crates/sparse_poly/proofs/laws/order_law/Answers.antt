use Rattle.sparse_poly.specs.OrderLaws.{poly_cmp-IsAntisymmetric, poly_cmp-IsTotalOrder}
use Rattle.sparse_poly.proofs.laws.order_law.Goals as goal

pub returns : goal.returns
returns c = record { total = poly_cmp-IsTotalOrder; ties = poly_cmp-IsAntisymmetric }
