use Rattle.poly_laws.proofs.Degrees.{poly_powers}
use Rattle.poly_laws.proofs.PowerCoefficients.{coefficient-power, coefficient-within}
use Rattle.poly_laws.proofs.coefficient_of_power_law.Goals as goal

pub returns : goal.returns
returns c = record {
  without = λ v k p m h i e. coefficient-power v k p m (poly_powers p h.monomials) i e;
  within = λ v k p m l. coefficient-within v k p m l;
}
