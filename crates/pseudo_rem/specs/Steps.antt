-- Steps of pseudo-division: l*q - a*p is stripped of the units into m*r. What makes a step one of a reduction or of a tail, and what stops it.
use Rattle.std.specs.Prelude.{◌≡◌, ◌≤◌, ◌⊎◌, ℕ, zero, suc, ◌-◌, pos, List, [], ◌∷◌}
use Rattle.std.specs.List.{AllByRecursion}
use Rattle.std.specs.declared.option.Option.TheVariants.{None, Some}
use Rattle.monomial.specs.Monomials.{monomial_times, too_high}
use Rattle.sparse_poly.specs.declared.Term.{Term}
use Rattle.sparse_poly.specs.declared.PolyFault.{PolyFault}
use Rattle.sparse_poly.specs.Polynomials.{constant}
use Rattle.sparse_poly.specs.Contributions.{contributions, IsResult, IsFault}
use Rattle.sparse_poly.specs.Reads.{degree_in, main_variable, leading_in}
use Rattle.sparse_poly.specs.Units.{IsStripped}
use Rattle.sparse_poly.specs.Clearing.{IsCleared}
use Rattle.pseudo_rem.specs.declared.steps.Reduction.{Reduction}

-- a polynomial times a monomial
abbrev pub raised : List (ℕ × ℕ) → List Term → List Term
raised m [] = []
raised m (t ∷ ts) = record { monomial = monomial_times m t.monomial; coeff = t.coeff } ∷ raised m ts

-- no product of the monomial with that of a term is of too high degree
abbrev pub AreLow : List (ℕ × ℕ) → List Term → Type 0
AreLow m ts = AllByRecursion (λ (t : Term). too_high (monomial_times m t.monomial) ≡ None) ts

-- a polynomial times a power of a variable
abbrev pub times_power : ℕ → ℕ → List Term → List Term
times_power v zero p = p
times_power v (suc k) p = raised ((v, suc k) ∷ []) p

-- l*q - a*p, which is neither of too high degree nor heavy, is stripped of the units into m*r
pub record IsStep (units : List (List Term)) (q p : List Term) (step : Reduction) : Type 0 where
  pub combined : List Term
  pub result : IsResult (contributions step.l q step.a p) combined
  pub stripped : IsStripped units combined step.m step.r

-- q can be reduced by p in v: v occurs in p, and not to a higher power than in q
pub record CanReduce (q p : List Term) (v : ℕ) : Type 0 where
  pub occurs : 1 ≤ degree_in v p
  pub below : degree_in v p ≤ degree_in v q

-- what p is multiplied with in the reduction of q by p in v: the leading coefficient of q, times the power of v that p lacks
abbrev pub cofactor : ℕ → List Term → List Term → List Term
cofactor v q p = times_power v (degree_in v q - degree_in v p) (leading_in v q)

-- the contributions to the reduction of q by p in v
abbrev pub step_contributions : ℕ → List Term → List Term → List Term
step_contributions v q p = contributions (leading_in v p) q (cofactor v q p) p

-- the reduction of q by p in v: l is the leading coefficient of p, and a the cofactor
pub record IsReduction (units : List (List Term)) (q p : List Term) (v : ℕ) (step : Reduction) : Type 0 where
  pub l_is : step.l ≡ leading_in v p
  pub a_is : step.a ≡ cofactor v q p
  pub is_step : IsStep units q p step

-- why a reduction is stopped
abbrev pub IsStepFault : List Term → List Term → ℕ → PolyFault → Type 0
IsStepFault q p v fault = IsFault (step_contributions v q p) fault

-- q has the main variable v, and its initial is factor times rest, by its strip or by its clearing
pub record IsTail (units : List (List Term)) (v : ℕ) (q factor rest : List Term) : Type 0 where
  pub main : main_variable q ≡ Some v
  pub divided : IsStripped units (leading_in v q) factor rest ⊎ IsCleared units (leading_in v q) factor rest

-- the contributions to the tail step: to q - a*rest, where a is the factor of the initial times the highest power of v in q
abbrev pub tail_contributions : ℕ → List Term → List Term → List Term → List Term
tail_contributions v q factor rest = contributions (constant (pos 1)) q (times_power v (degree_in v q) factor) rest

-- the tail step, in which q loses its initial factor*rest
pub record IsTailStep (units : List (List Term)) (v : ℕ) (q factor rest : List Term) (step : Reduction) : Type 0 where
  pub l_is : step.l ≡ constant (pos 1)
  pub a_is : step.a ≡ times_power v (degree_in v q) factor
  pub is_step : IsStep units q rest step

-- why a tail step is stopped
abbrev pub IsTailFault : ℕ → List Term → List Term → List Term → PolyFault → Type 0
IsTailFault v q factor rest fault = IsFault (tail_contributions v q factor rest) fault
