-- The polynomials of a step have their variables below n where those of what it is made from are.
use Rattle.std.specs.Prelude.{◌<◌, ◌-◌, ℕ, pos, List}
use Rattle.std.proofs.Common.{sym, subst}
use Rattle.sparse_poly.specs.declared.Term.{Term}
use Rattle.sparse_poly.specs.Contributions.{contributions}
use Rattle.sparse_poly.specs.Reads.{degree_in, leading_in}
use Rattle.sparse_poly.specs.Clearing.{IsCleared}
use Rattle.sparse_poly.proofs.Powers.{IsPoly-coefficient_of_power}
use Rattle.pseudo_rem.specs.declared.steps.Reduction.{Reduction}
use Rattle.pseudo_rem.specs.Steps.{IsStep, IsReduction, IsTailStep}
use Rattle.sparse_poly.specs.Reads.{HasVariablesBelow}
use Rattle.legal_ranges.proofs.Contributions.{constant_below, contributions_below, sum_below}
use Rattle.legal_ranges.proofs.ReadParts.{leading_below, power_below}
use Rattle.legal_ranges.proofs.Strips.{IsPolyBelow, ArePolysBelow, stripped_below, cleared_below}

module _ (n : ℕ) where
  pub record IsStepBelow (step : Reduction) : Type 0 where
    pub l : HasVariablesBelow n step.l
    pub a : HasVariablesBelow n step.a
    pub m : HasVariablesBelow n step.m
    pub r : IsPolyBelow n step.r

  step_below : (units : List (List Term)) (q p : List Term) (step : Reduction) → HasVariablesBelow n q → HasVariablesBelow n p → HasVariablesBelow n step.l → HasVariablesBelow n step.a → IsStep units q p step → IsStepBelow step
  step_below units q p step h i l a s =
      let combined : IsPolyBelow n s.combined = record { poly = s.result.poly; below = sum_below n s.combined (contributions step.l q step.a p) s.result.poly s.result.sums (contributions_below n step.l q step.a p l h a i) } in
      let strip = stripped_below n units s.combined step.m step.r combined s.stripped in
      record { l = l; a = a; m = strip.factor.below; r = strip.rest }

  pub reduction_below : (units : List (List Term)) (q p : List Term) (v : ℕ) (step : Reduction) → v < n → HasVariablesBelow n q → HasVariablesBelow n p → IsReduction units q p v step → IsStepBelow step
  reduction_below units q p v step less h i s =
      step_below units q p step h i
      (subst (HasVariablesBelow n) (sym s.l_is) (leading_below n v p i))
      (subst (HasVariablesBelow n) (sym s.a_is) (power_below n v (degree_in v q - degree_in v p) (leading_in v q) less (leading_below n v q h)))
      s.is_step

  pub tail_below : (units : List (List Term)) (v : ℕ) (q factor rest : List Term) (step : Reduction) → v < n → HasVariablesBelow n q → HasVariablesBelow n factor → HasVariablesBelow n rest → IsTailStep units v q factor rest step → IsStepBelow step
  tail_below units v q factor rest step less h f r s =
      step_below units q rest step h r
      (subst (HasVariablesBelow n) (sym s.l_is) (constant_below n (pos 1)))
      (subst (HasVariablesBelow n) (sym s.a_is) (power_below n v (degree_in v q) factor less f))
      s.is_step

  -- what is left of an initial, and what was divided out
  pub initial_below : (units : List (List Term)) (v : ℕ) (p factor rest : List Term) → IsPolyBelow n p → IsCleared units (leading_in v p) factor rest → ArePolysBelow n factor rest
  initial_below units v p factor rest h c =
      cleared_below n units (leading_in v p) factor rest (record { poly = IsPoly-coefficient_of_power v (degree_in v p) p h.poly; below = leading_below n v p h.below }) c
