-- How far the search by Linear has come.
use Rattle.std.specs.Prelude.{◌≡◌, ◌≢◌, ◌<◌, ℕ}
use Rattle.std.specs.declared.option.Option.{Option}
use Rattle.std.specs.declared.option.Option.TheVariants.{Some}
use Rattle.sparse_poly.specs.Reads.{degree_in}
use Rattle.case_rules.specs.Cases.{CaseState, poly, count}
use Rattle.case_rules.specs.Rules.{IsLinearAt}
use Rattle.case_split.specs.declared.linear.Passed.{Passed}
use Rattle.case_split.specs.declared.linear.Progress.{Progress}
use Rattle.case_split.specs.Found.{None_below}

-- equation i is one of those that are passed, and contains their variable
pub record IsPassedWith (c : CaseState) (p : Passed) (i : ℕ) : Type 0 where
  pub passed : i < p.first
  pub place : i < count c
  pub contains : 0 < degree_in p.var (poly c i)

-- at most one of those that are passed contains their variable
abbrev pub IsPassed : CaseState → Passed → Type 0
IsPassed c p = (i j : ℕ) → IsPassedWith c p i → IsPassedWith c p j → i ≡ j

-- at most one of them does so, apart from the one at a place
abbrev pub IsPassedBut : CaseState → Option ℕ → Passed → Type 0
IsPassedBut c at p = (i j : ℕ) → IsPassedWith c p i → IsPassedWith c p j → at ≢ Some i → at ≢ Some j → i ≡ j

-- none of those that are done is due by Linear, and at most one of those that are passed contains their variable
pub record IsSearched (c : CaseState) (p : Progress) : Type 0 where
  pub done : None_below (IsLinearAt c) p.done
  pub passed : IsPassed c p.passed
