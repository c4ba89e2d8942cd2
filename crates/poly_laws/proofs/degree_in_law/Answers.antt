use Rattle.poly_laws.proofs.Degrees.{degree-is, is-degree}
use Rattle.poly_laws.proofs.degree_in_law.Goals as goal

pub returns : goal.returns
returns c = λ v p d. (λ e. degree-is v p d e, λ g. is-degree v p d g)
