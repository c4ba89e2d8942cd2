use Rattle.monomial.proofs.Lower.{IsLower-from_cmp, cmp-from_IsLower, monomial_cmp-times, monomial_cmp-times_back}
use Rattle.monomial.proofs.Total.{monomial_cmp-IsAntisymmetric, monomial_cmp-IsTotalOrder}
use Rattle.monomial.proofs.laws.order_law.Goals as goal

pub returns : goal.returns
returns c = record {
  total = monomial_cmp-IsTotalOrder;
  ties = monomial_cmp-IsAntisymmetric;
  below = λ a b h i. (λ e. IsLower-from_cmp a b h i e, λ l. cmp-from_IsLower a b h i l);
  products = λ m a b g h i. (λ e. monomial_cmp-times m a b g h i e, λ e. monomial_cmp-times_back m a b g h i e);
}
