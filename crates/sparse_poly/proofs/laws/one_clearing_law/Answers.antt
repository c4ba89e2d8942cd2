use Rattle.sparse_poly.proofs.OneQuotient.{one_quotient, one_strip, one_clearing}
use Rattle.sparse_poly.proofs.laws.one_clearing_law.Goals as goal

pub returns : goal.returns
returns c = record {
  quotient = λ n p g h i m d e. one_quotient n p g h i m d e;
  strip = λ units p f r f' r' h s s'. one_strip units p f r f' r' h s s';
  clearing = λ units p f r f' r' h s s'. one_clearing units p f r f' r' h s s';
}
