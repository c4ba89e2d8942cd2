use Rattle.poly_text.proofs.Answered.{one_poly}
use Rattle.poly_text.proofs.laws.text_law.Goals as goal

pub returns : goal.returns
returns c = λ p q. one_poly p q
