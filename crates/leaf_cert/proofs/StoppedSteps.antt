-- Steps that are stopped, by what was answered.
use Rattle.std.specs.Prelude.{◌≡◌, ◌⊎◌, ℕ, Bool, true, false, List, IsTrue, IfOk, Contains, refl}
use mathlib.Core.Logic.{inl, inr}
use Rattle.std.proofs.Common.{arith, sym, ◌∙◌, subst}
use Rattle.std.proofs.lemmas.Option.{none-some}
use Rattle.std.proofs.lemmas.Bool.{true≢false}
use Rattle.std.specs.declared.option.Option.TheVariants.{Some}
use Rattle.std.specs.declared.result.Result.{Result}
use Rattle.std.specs.declared.result.Result.TheVariants.{Ok, Err}
use Rattle.sparse_poly.specs.declared.Term.{Term}
use Rattle.sparse_poly.specs.declared.PolyFault.{PolyFault}
use Rattle.sparse_poly.specs.declared.PolyFault.TheVariants.{Degree, Heavy}
use Rattle.sparse_poly.specs.Contributions.{contributions, degree_of, IsPoly, IsResult, IsFault}
use Rattle.sparse_poly.specs.Reads.{main_variable, degree_in, leading_in}
use Rattle.sparse_poly.specs.Units.{IsStripped}
use Rattle.sparse_poly.specs.Clearing.{IsCleared}
use Rattle.sparse_poly.proofs.OneQuotient.{one_strip, one_clearing}
use Rattle.pseudo_rem.specs.declared.steps.Reduction.{Reduction}
use Rattle.pseudo_rem.specs.Steps.{times_power, cofactor, IsReduction, step_contributions, IsTail, IsTailStep, tail_contributions}
use Rattle.leaf_cert.specs.declared.ending.Limit.{Limit}
use Rattle.leaf_cert.specs.declared.ending.Limit.TheVariants.{Degree as over_degree, Coefficient as over_coefficient}
use Rattle.leaf_cert.specs.Limits.{IsOver}
use Rattle.leaf_cert.specs.Leaves.{IsTooHigh, IsTooHeavy, IsStoppedTail}

module _ (cs : List Term) where
  -- a combination that was made is over no limit
  pub made_under : (limit : Limit) (p : List Term) → IsResult cs p → IsOver limit cs → ⊥
  made_under over_degree p r h = h r.degree
  made_under over_coefficient p r h = let l = r.light h.heavy.monomial in let m = h.heavy.heavy in absurd (omega arith)

  -- what a fault says of each limit
  pub high_degree : (fault : PolyFault) (v : ℕ) → fault ≡ Degree v → IsFault cs fault → (IsTrue true → IsTooHigh cs) × (IsTooHigh cs → IsTrue true)
  high_degree fault v e f = let d : degree_of cs ≡ Some v = subst (IsFault cs) e f in (λ t z. none-some v (sym z ∙ d), λ h. refl)

  pub high_heavy : (fault : PolyFault) (m : List (ℕ × ℕ)) → fault ≡ Heavy m → IsFault cs fault → (IsTrue false → IsTooHigh cs) × (IsTooHigh cs → IsTrue false)
  high_heavy fault m e f = let g : IsFault cs (Heavy m) = subst (IsFault cs) e f in (λ t. absurd (true≢false (sym t)), λ h. absurd (h g.0))

  pub heavy_degree : (fault : PolyFault) (v : ℕ) → fault ≡ Degree v → IsFault cs fault → (IsTrue false → IsTooHeavy cs) × (IsTooHeavy cs → IsTrue false)
  heavy_degree fault v e f = let d : degree_of cs ≡ Some v = subst (IsFault cs) e f in (λ t. absurd (true≢false (sym t)), λ h. absurd (none-some v (sym h.degree ∙ d)))

  pub heavy_heavy : (fault : PolyFault) (m : List (ℕ × ℕ)) → fault ≡ Heavy m → IsFault cs fault → (IsTrue true → IsTooHeavy cs) × (IsTooHeavy cs → IsTrue true)
  heavy_heavy fault m e f = let g : IsFault cs (Heavy m) = subst (IsFault cs) e f in (λ t. record { degree = g.0; heavy = record { monomial = m; heavy = g.1.heavy } }, λ h. refl)

-- what a test says where it says nothing else
pub no_test : (A : Type 0) → (A → ⊥) → (IsTrue false → A) × (A → IsTrue false)
no_test A n = (λ t. absurd (true≢false (sym t)), λ a. absurd (n a))

pub same_test : {E : Type 0} (result : Result Bool E) (A B : Type 0) → (A → B) → (B → A) → IfOk result (λ b. (IsTrue b → A) × (A → IsTrue b)) → IfOk result (λ b. (IsTrue b → B) × (B → IsTrue b))
same_test (Err e) A B f g h = h
same_test (Ok b) A B f g h = (λ t. f (h.0 t), λ x. h.1 (g x))

-- a step that was made is over no limit
pub reduction_under : (units : List (List Term)) (q p : List Term) (v : ℕ) (step : Reduction) (limit : Limit) → IsReduction units q p v step → IsOver limit (step_contributions v q p) → ⊥
reduction_under units q p v step limit r =
    made_under (step_contributions v q p) limit r.is_step.combined (subst (λ x. IsResult (contributions x q (cofactor v q p) p) r.is_step.combined) r.l_is (subst (λ x. IsResult (contributions step.l q x p) r.is_step.combined) r.a_is r.is_step.result))

pub tail_under : (units : List (List Term)) (v : ℕ) (q factor rest : List Term) (step : Reduction) (limit : Limit) → IsTailStep units v q factor rest step → IsOver limit (tail_contributions v q factor rest) → ⊥
tail_under units v q factor rest step limit r =
    made_under (tail_contributions v q factor rest) limit r.is_step.combined (subst (λ x. IsResult (contributions x q (times_power v (degree_in v q) factor) rest) r.is_step.combined) r.l_is (subst (λ x. IsResult (contributions step.l q x rest) r.is_step.combined) r.a_is r.is_step.result))

-- a tail step by the strip or by the clearing of the initial
module _ (equations units : List (List Term)) (v : ℕ) (q p : List Term) (limit : Limit) (reduced : Contains equations q) (main : main_variable q ≡ Some v) where
  abbrev pub Over : List Term → List Term → Type 0
  Over factor rest = (rest ≡ p) × IsOver limit (tail_contributions v q factor rest)

  abbrev pub Stopped : Type 0
  Stopped = IsStoppedTail equations units v q p (IsOver limit)

  pub stopped_by : (factor rest : List Term) → IsTail units v q factor rest → Over factor rest → Stopped
  stopped_by factor rest t o = record { reduced = reduced; factor = factor; tail = subst (IsTail units v q factor) o.0 t; stopped = subst (λ x. IsOver limit (tail_contributions v q factor x)) o.0 o.1 }

  moved : (factor f r : List Term) → (factor ≡ f) × (p ≡ r) → IsOver limit (tail_contributions v q factor p) → Over f r
  moved factor f r same o = (sym same.1, subst (λ x. IsOver limit (tail_contributions v q x r)) same.0 (subst (λ x. IsOver limit (tail_contributions v q factor x)) same.1 o))

  module _ (f r e h : List Term) (poly : IsPoly (leading_in v q)) (s : IsStripped units (leading_in v q) f r) (c : IsCleared units (leading_in v q) e h) where
    which : Stopped → Over f r ⊎ Over e h
    which t = either t.tail.divided
      where
        either : IsStripped units (leading_in v q) t.factor p ⊎ IsCleared units (leading_in v q) t.factor p → Over f r ⊎ Over e h
        either (inl x) = inl (moved t.factor f r (one_strip units (leading_in v q) t.factor p f r poly x s) t.stopped)
        either (inr x) = inr (moved t.factor e h (one_clearing units (leading_in v q) t.factor p e h poly x c) t.stopped)

    pub tail_test : (first last : Bool) → (IsTrue first → Over f r) × (Over f r → IsTrue first) → first ≡ false → (IsTrue last → Over e h) × (Over e h → IsTrue last) → (IsTrue last → Stopped) × (Stopped → IsTrue last)
    tail_test first last a z b = (λ t. stopped_by e h (record { main = main; divided = inr c }) (b.0 t), λ t. either (which t))
      where
        either : Over f r ⊎ Over e h → IsTrue last
        either (inl o) = absurd (true≢false (sym (a.1 o) ∙ z))
        either (inr o) = b.1 o
