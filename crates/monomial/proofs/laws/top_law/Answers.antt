use Rattle.monomial.proofs.Greatest.{top-greatest, greatest-top, top-none, none-top}
use Rattle.monomial.proofs.laws.top_law.Goals as goal

pub returns : goal.returns
returns c = record {
  greatest = λ m v h. (λ e. top-greatest m v h e, λ g. greatest-top m v h g);
  none = λ m h. (λ e. top-none m e, λ f. none-top m h f);
}
