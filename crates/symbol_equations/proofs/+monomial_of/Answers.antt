use Rattle.std.proofs.Common.{arith}
use Rattle.symbol_equations.proofs.Low.{IsLow-of_terms}
use Rattle.symbol_equations.proofs.+monomial_of.Goals as goal

pub times_unknown-requires : goal.times_unknown-requires
times_unknown-requires t c = IsLow-of_terms c.args.symbols.now c.in-Some.rest.now 4 c.in_ok-monomial.field-0 c.in-Some-2.monomial c.in-Some-2.is c.in_ok-monomial.ensures (omega (arith, c.requires, c.in-Some.ensures.cases.1))
