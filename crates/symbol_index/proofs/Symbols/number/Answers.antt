use Rattle.std.proofs.Common.{◌∙◌}
use Rattle.symbol_index.proofs.Standings.{number_from_search}
use Rattle.symbol_index.proofs.Symbols.number.Goals as goal

pub returns : goal.returns
returns c =
    rw (← c.self.view_is)
    (c.unwrap_or.ensures ∙ number_from_search c.self.inside.ring c.args.s (rw c.self.view_is c.requires) c.deref.result.now c.find.result (c.deref.ensures.value ∙ c.self.invariant.0) c.find.ensures.place c.find.ensures.in_range)
