use Rattle.symbol_index.proofs.Members.{unknowns_contain, contains_unknowns}
use Rattle.symbol_index.proofs.Standings.{standing_is}
use Rattle.symbol_index.proofs.laws.number_law.Goals as goal

pub returns : goal.returns
returns c = record {
  inverse = λ r i s. standing_is r i s;
  all = λ r s. (contains_unknowns r s, unknowns_contain r s);
}
