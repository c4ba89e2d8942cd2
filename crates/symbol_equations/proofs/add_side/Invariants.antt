use Rattle.std.proofs.Common.{◌≡◌, ◌++◌, take}
use Rattle.symbol_equations.specs.Differences.{side_terms}
use Rattle.symbol_equations.specs.Contributions.{with_coeff}
use Rattle.symbol_equations.proofs.add_side.Given as goal

abbrev pub invariant-loop-product : goal.invariant-loop-product
invariant-loop-product l = l.terms.items ≡ l.initial.terms.items ++ with_coeff l.coeff (side_terms l.symbols (take l.product-index l.side))
