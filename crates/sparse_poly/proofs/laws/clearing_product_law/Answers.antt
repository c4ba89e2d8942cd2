use Rattle.sparse_poly.proofs.Clearings.{cleared_product, cleared_polys}
use Rattle.sparse_poly.proofs.laws.clearing_product_law.Goals as goal

pub returns : goal.returns
returns c = record {
  product = λ units p f r h. cleared_product units p f r h;
  polynomials = λ units p f r h. cleared_polys units p f r h;
}
