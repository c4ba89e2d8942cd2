use Rattle.std.proofs.Common.{sym}
use Rattle.pattern_store.proofs.Places.{place_found, no_place}
use Rattle.pattern_store.proofs.numbering.number.Goals as goal

pub returns-in-Some-clause-place : goal.returns-in-Some-clause-place
returns-in-Some-clause-place c = place_found _ _ _ (sym c.in-Some.ensures.index)

pub returns-in-None-clause-place : goal.returns-in-None-clause-place
returns-in-None-clause-place c = no_place _ _ (sym c.in-None.ensures.index)
