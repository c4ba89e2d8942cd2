use Rattle.monomial.proofs.Exponents.{same_from_exponents, exponent-times}
use Rattle.monomial.proofs.laws.exponents_law.Goals as goal

pub returns : goal.returns
returns c = record {
  same = λ a b h i e. same_from_exponents a b h i e;
  product = λ a b v h i. exponent-times a b v h i;
}
