use Rattle.sparse_poly.proofs.Evaluation.{coefficient-append, coefficient-negated}
use Rattle.sparse_poly.proofs.Same.{same_polynomial}
use Rattle.sparse_poly.proofs.laws.coefficients_law.Goals as goal

pub returns : goal.returns
returns c = record {
  same = λ p q h i e. same_polynomial p q h i e;
  sum = λ p q m. coefficient-append m p q;
  negation = λ p m. coefficient-negated m p;
}
