use Rattle.poly_laws.proofs.Greatest.{main-greatest, greatest-main, main-none, none-main}
use Rattle.poly_laws.proofs.Degrees.{poly_powers}
use Rattle.poly_laws.proofs.main_variable_law.Goals as goal

pub returns : goal.returns
returns c = record {
  greatest = λ p v h. (λ e. main-greatest p v (poly_powers p h.monomials) e, λ g. greatest-main p v (poly_powers p h.monomials) g);
  none = λ p h. (λ e. main-none p (poly_powers p h.monomials) e, λ n. none-main p (poly_powers p h.monomials) n);
}
