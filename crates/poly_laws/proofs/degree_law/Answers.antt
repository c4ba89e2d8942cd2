use Rattle.poly_laws.proofs.Greatest.{degree-greatest, greatest-degree, degree-none, none-degree}
use Rattle.poly_laws.proofs.Degrees.{combination_powers}
use Rattle.poly_laws.proofs.degree_law.Goals as goal

pub returns : goal.returns
returns c = record {
  greatest = λ cs v h. (λ e. degree-greatest cs v h e, λ g. greatest-degree cs v h g);
  none = λ cs h. (λ e. degree-none cs h e, λ n. none-degree cs h n);
  combination = λ l q a p h i j k. combination_powers l q a p h i j k;
}
