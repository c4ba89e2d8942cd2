use Rattle.pseudo_rem.proofs.DegreeLaw.{lower, greater, other}
use Rattle.pseudo_rem.proofs.laws.degree_law.Goals as goal

pub returns-clause-lower : goal.returns-clause-lower
returns-clause-lower c units q p v step hq hp can r = lower units q p v step hq hp can r

pub returns-clause-greater : goal.returns-clause-greater
returns-clause-greater c units q p u v w step hq hp can r m l = greater units q p v step hq hp can r u w m l

pub returns-clause-other : goal.returns-clause-other
returns-clause-other c units q p v w step hq hp can r z = other units q p v step hq hp can r w z
