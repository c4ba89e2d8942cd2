-- The full remainder of a polynomial by a list whose main variables differ.
use Rattle.std.specs.Prelude.{◌≡◌, ◌≤◌, ℕ, List, [], ◌∷◌, slice_get}
use Rattle.std.specs.declared.option.Option.TheVariants.{Some}
use Rattle.sparse_poly.specs.declared.Term.{Term}
use Rattle.sparse_poly.specs.declared.PolyFault.{PolyFault}
use Rattle.sparse_poly.specs.declared.PolyFault.TheVariants.{Degree, Heavy, OutOfMemory}
use Rattle.sparse_poly.specs.Reads.{main_variable}
use Rattle.pseudo_rem.specs.declared.remainders.Step.{Step}
use Rattle.pseudo_rem.specs.Steps.{CanReduce, IsReduction, IsStepFault}

-- p is due for n: n can be reduced by p in the main variable v of p
pub record IsDue (n p : List Term) (v : ℕ) : Type 0 where
  pub main : main_variable p ≡ Some v
  pub can : CanReduce n p v

-- no member is due for n
abbrev pub NoneIsDue : List (List Term) → List Term → Type 0
NoneIsDue list n = (i : ℕ) (p : List Term) (v : ℕ) → slice_get list i ≡ Some p → IsDue n p v → ⊥

-- the member p at place i is due for n, and of those that are due it has the greatest main variable, v
pub record IsNextDue (list : List (List Term)) (n : List Term) (i : ℕ) (p : List Term) (v : ℕ) : Type 0 where
  pub member : slice_get list i ≡ Some p
  pub due : IsDue n p v
  pub greatest : (j : ℕ) (q : List Term) (w : ℕ) → slice_get list j ≡ Some q → IsDue n q w → w ≤ v

-- the step reduces n by the member that is next due
pub record IsNextStep (units list : List (List Term)) (n : List Term) (step : Step) : Type 0 where
  pub poly : List Term
  pub var : ℕ
  pub next : IsNextDue list n step.by poly var
  pub reduction : IsReduction units n poly var step.reduction

-- what is left of n after these steps: n itself, or else the r of the last one
abbrev pub rest_of : List Term → List Step → List Term
rest_of n [] = n
rest_of n (step ∷ steps) = rest_of step.reduction.r steps

-- each step reduces what the steps before it leave of n
abbrev pub AreNextSteps : List (List Term) → List (List Term) → List Term → List Step → Type 0
AreNextSteps units list n [] = Unit {0}
AreNextSteps units list n (step ∷ steps) = IsNextStep units list n step × AreNextSteps units list step.reduction.r steps

-- the steps of the full remainder of n: while a member is due, a reduction by the one that is next due
pub record AreSteps (units list : List (List Term)) (n : List Term) (steps : List Step) : Type 0 where
  pub each : AreNextSteps units list n steps
  pub finished : NoneIsDue list (rest_of n steps)

-- the first step that is stopped: after these steps a reduction is next due, and it is stopped so
pub record IsStopped (units list : List (List Term)) (n : List Term) (fault : PolyFault) : Type 0 where
  pub steps : List Step
  pub each : AreNextSteps units list n steps
  pub place : ℕ
  pub poly : List Term
  pub var : ℕ
  pub next : IsNextDue list (rest_of n steps) place poly var
  pub stopped : IsStepFault (rest_of n steps) poly var fault

-- why the full remainder is not made
abbrev pub IsRemainderFault : List (List Term) → List (List Term) → List Term → PolyFault → Type 0
IsRemainderFault units list n (Degree v) = IsStopped units list n (Degree v)
IsRemainderFault units list n (Heavy m) = IsStopped units list n (Heavy m)
IsRemainderFault units list n OutOfMemory = Unit {0}
