-- Where what is left of a reduction goes.
use Rattle.std.specs.Prelude.{ℕ, remove}
use Rattle.std.specs.declared.option.Option.{Option}
use Rattle.case_rules.specs.Cases.{CaseState}
use Rattle.case_rules.specs.Branches.{IsReduced}
use Rattle.case_system.specs.Places.{HasPlace}

-- equation q is reduced by equation p in v, and what is left goes to this place
pub record IsReducedAt (c : CaseState) (q p v : ℕ) (at : Option ℕ) (c' : CaseState) : Type 0 where
  pub reduced : IsReduced c q p v c'
  pub place : HasPlace reduced.rest.poly (remove c.equations q) at
