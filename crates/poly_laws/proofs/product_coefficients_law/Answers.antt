use Rattle.sparse_poly.proofs.ProductSums.{products-same}
use Rattle.poly_laws.proofs.product_coefficients_law.Goals as goal

pub returns : goal.returns
returns c = λ p p' q q' e f. products-same p p' q q' e f
