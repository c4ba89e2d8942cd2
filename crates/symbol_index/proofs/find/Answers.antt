use Rattle.std.proofs.Common.{rules}
use Rattle.symbol_index.specs.contracts.SymbolOrd.TheImpl.{ghosts}
use Rattle.symbol_index.specs.Order.{symbol_cmp}
use Rattle.symbol_index.proofs.Numbers.{search_agrees}
use Rattle.symbol_index.proofs.find.Goals as goal

pub returns-clause-place : goal.returns-clause-place
returns-clause-place c = search_agrees (λ u. ghosts.cmp u c.args.s) (λ u. symbol_cmp u c.args.s) c.args.symbols.now c.binary_search.result c.binary_search.ensures.position (λ u. search rules)
