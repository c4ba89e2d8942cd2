use Rattle.monomial.proofs.Greatest.{too_high-greatest, greatest-too_high, too_high-none, none-too_high, product-greatest, greatest-product, product-none, none-product}
use Rattle.monomial.proofs.laws.degree_law.Goals as goal

pub returns : goal.returns
returns c = record {
  greatest = λ m v h. (λ e. too_high-greatest m v h e, λ g. greatest-too_high m v h g);
  none = λ m h. (λ e. too_high-none m e, λ f. none-too_high m h f);
  product = λ a b v h i. (λ e. product-greatest a b v h i e, λ g. greatest-product a b v h i g);
  whole = λ a b h i. (λ e. product-none a b h i e, λ f. none-product a b h i f);
}
