use Rattle.std.proofs.Common.{length}
use Rattle.symbol_equations.proofs.+monomial_of.Given as goal

abbrev pub decreases-monomial_of : goal.decreases-monomial_of
decreases-monomial_of l = length l.factors.now
