use Rattle.std.proofs.Common.{◌≡◌, ◌++◌, ◌≤◌, length}
use Rattle.std.specs.List.{AllByRecursion}
use Rattle.poly_text.specs.Text.{more_factors}
use Rattle.poly_text.specs.State.{FactorEnd}
use Rattle.poly_text.specs.Numbers.{IsFactorInRange}
use Rattle.poly_text.specs.Scan.{scan}
use Rattle.poly_text.specs.Fronts.{IsLive}
use Rattle.poly_text.specs.Places.{IsFactorPlace}
use Rattle.poly_text.proofs.Fronts.{FactorsMore}
use Rattle.poly_text.proofs.raw.push_factors.Given as goal

abbrev pub invariant-factors : goal.invariant-factors
invariant-factors l = record {
  same : scan l.unknowns l.initial.fault FactorEnd l.text ≡ scan l.unknowns l.fault FactorEnd l.rest;
  front : IsLive l.unknowns FactorEnd l.text → AllByRecursion (IsFactorInRange l.unknowns) l.initial.powers.items → FactorsMore l.unknowns (more_factors l.initial.powers.items ++ l.text) l.text l.powers.items l.rest;
  order : IsLive l.unknowns FactorEnd l.text → AllByRecursion (IsFactorInRange l.unknowns) l.initial.powers.items → IsFactorPlace l.initial.powers.items l.text l.initial.disorder → IsFactorPlace l.powers.items l.rest l.disorder;
  shorter : length l.rest ≤ length l.text;
}

abbrev pub decreases-factors : goal.decreases-factors
decreases-factors l = length l.rest
