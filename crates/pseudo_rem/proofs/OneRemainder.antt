-- A full remainder has one list of steps, or one first step that is stopped.
use Rattle.std.specs.Prelude.{◌≡◌, ◌≢◌, ◌<◌, ℕ, ◌⊎◌, pos, List, [], ◌∷◌, slice_get, refl}
use mathlib.Core.Logic.{inl, inr}
use Rattle.std.proofs.Common.{arith, sym, ◌∙◌, ap, subst}
use Rattle.std.proofs.lemmas.Option.{same_Some, slice_get_within, get_or_from_slice_get}
use Rattle.std.specs.declared.option.Option.TheVariants.{Some}
use Rattle.sparse_poly.specs.declared.Term.{Term}
use Rattle.sparse_poly.specs.declared.PolyFault.{PolyFault}
use Rattle.sparse_poly.specs.declared.PolyFault.TheVariants.{Degree, Heavy, OutOfMemory}
use Rattle.sparse_poly.specs.Reads.{main_variable, leading_in, HaveMainVariables}
use Rattle.sparse_poly.specs.Polynomials.{constant}
use Rattle.sparse_poly.specs.Contributions.{contributions, IsResult}
use Rattle.pseudo_rem.specs.Steps.{IsReduction, IsStepFault, IsTailStep, IsTailFault, step_contributions, tail_contributions}
use Rattle.pseudo_rem.specs.Remainders.{IsNextDue, IsNextStep, NoneIsDue, AreNextSteps, rest_of, AreSteps, IsStopped, IsRemainderFault}
use Rattle.pseudo_rem.specs.declared.steps.Reduction.{Reduction}
use Rattle.pseudo_rem.specs.declared.remainders.Step.{Step}
use Rattle.pseudo_rem.proofs.OneStep.{OneStrip, one_step, no_fault, one_fault}

pub one_reduction : OneStrip → (units : List (List Term)) (q p : List Term) (v : ℕ) (s t : Reduction) → IsReduction units q p v s → IsReduction units q p v t → s ≡ t
one_reduction one units q p v s t h k = one_step one units q p s t (h.l_is ∙ sym k.l_is) (h.a_is ∙ sym k.a_is) h.is_step k.is_step

pub no_reduction_fault : (units : List (List Term)) (q p : List Term) (v : ℕ) (s : Reduction) (fault : PolyFault) → IsReduction units q p v s → IsStepFault q p v fault → fault ≡ OutOfMemory
no_reduction_fault units q p v s fault h f =
    no_fault (step_contributions v q p) h.is_step.combined fault (subst (λ x. IsResult (contributions (leading_in v p) q x p) h.is_step.combined) h.a_is (subst (λ x. IsResult (contributions x q s.a p) h.is_step.combined) h.l_is h.is_step.result)) f

pub no_tail_fault : (units : List (List Term)) (v : ℕ) (q factor rest : List Term) (s : Reduction) (fault : PolyFault) → IsTailStep units v q factor rest s → IsTailFault v q factor rest fault → fault ≡ OutOfMemory
no_tail_fault units v q factor rest s fault h f =
    no_fault (tail_contributions v q factor rest) h.is_step.combined fault (subst (λ x. IsResult (contributions (constant (pos 1)) q x rest) h.is_step.combined) h.a_is (subst (λ x. IsResult (contributions x q s.a rest) h.is_step.combined) h.l_is h.is_step.result)) f

module _ (list : List (List Term)) (main : HaveMainVariables list) where
  -- members of one main variable stand at one place
  not_before : (i j : ℕ) (p q : List Term) (v : ℕ) → slice_get list i ≡ Some p → slice_get list j ≡ Some q → main_variable p ≡ Some v → main_variable q ≡ Some v → i < j → ⊥
  not_before i j p q v a b m n l =
      main.apart i j [] l (slice_get_within list j q b)
      (ap main_variable (get_or_from_slice_get list i p [] a) ∙ m ∙ sym n ∙ sym (ap main_variable (get_or_from_slice_get list j q [] b)))

  one_place : (i j : ℕ) (p q : List Term) (v : ℕ) → slice_get list i ≡ Some p → slice_get list j ≡ Some q → main_variable p ≡ Some v → main_variable q ≡ Some v → i ≡ j
  one_place i j p q v a b m n = each (cases i j)
    where
      cases : (i j : ℕ) → (i < j) ⊎ ((j < i) ⊎ (i ≡ j))
      cases i j = grind arith

      each : (i < j) ⊎ ((j < i) ⊎ (i ≡ j)) → i ≡ j
      each (inl l) = absurd (not_before i j p q v a b m n l)
      each (inr (inl l)) = absurd (not_before j i q p v b a n m l)
      each (inr (inr e)) = e

  -- one member is next due
  pub record IsSame (i j : ℕ) (p q : List Term) (v w : ℕ) : Type 0 where
    pub place : i ≡ j
    pub member : p ≡ q
    pub var : v ≡ w

  pub one_next : (n : List Term) (i j : ℕ) (p q : List Term) (v w : ℕ) → IsNextDue list n i p v → IsNextDue list n j q w → IsSame i j p q v w
  one_next n i j p q v w h k =
      let low = h.greatest j q w k.member k.due in
      let high = k.greatest i p v h.member h.due in
      let var : v ≡ w = omega (arith, low, high) in
      let place : i ≡ j = one_place i j p q w h.member k.member (h.due.main ∙ ap Some var) k.due.main in
      record { place = place; member = same_Some p q (sym h.member ∙ ap (slice_get list) place ∙ k.member); var = var }

  module _ (units : List (List Term)) (one : OneStrip) where
    same_step : (s t : Step) → s.by ≡ t.by → s.reduction ≡ t.reduction → s ≡ t
    same_step s t e f = ap (λ x. let y : Step = record { by = x; reduction = s.reduction } in y) e ∙ ap (λ x. let y : Step = record { by = t.by; reduction = x } in y) f

    one_next_step : (n : List Term) (s t : Step) → IsNextStep units list n s → IsNextStep units list n t → s ≡ t
    one_next_step n s t h k =
        let same = one_next n s.by t.by h.poly k.poly h.var k.var h.next k.next in
        same_step s t same.place (one_reduction one units n k.poly k.var s.reduction t.reduction (subst (λ x. IsReduction units n k.poly x s.reduction) same.var (subst (λ x. IsReduction units n x h.var s.reduction) same.member h.reduction)) k.reduction)

    -- a step that is made is not stopped
    made_not_stopped : (n : List Term) (s : Step) (i : ℕ) (p : List Term) (v : ℕ) (fault : PolyFault) → IsNextStep units list n s → IsNextDue list n i p v → IsStepFault n p v fault → fault ≡ OutOfMemory
    made_not_stopped n s i p v fault h k f =
        let same = one_next n s.by i h.poly p h.var v h.next k in
        no_reduction_fault units n p v s.reduction fault (subst (λ x. IsReduction units n p x s.reduction) same.var (subst (λ x. IsReduction units n x h.var s.reduction) same.member h.reduction)) f

    pub one_run : (n : List Term) (ss ts : List Step) → AreNextSteps units list n ss → NoneIsDue list (rest_of n ss) → AreNextSteps units list n ts → NoneIsDue list (rest_of n ts) → ss ≡ ts
    one_run n [] [] a e b f = refl
    one_run n [] (t ∷ ts) a e b f = absurd (e t.by b.0.poly b.0.var b.0.next.member b.0.next.due)
    one_run n (s ∷ ss) [] a e b f = absurd (f s.by a.0.poly a.0.var a.0.next.member a.0.next.due)
    one_run n (s ∷ ss) (t ∷ ts) a e b f =
        let first : s ≡ t = one_next_step n s t a.0 b.0 in
        let rest : ss ≡ ts = one_run t.reduction.r ss ts (subst (λ (x : Step). AreNextSteps units list x.reduction.r ss) first a.1) (subst (λ (x : Step). NoneIsDue list (rest_of x.reduction.r ss)) first e) b.1 f in
        ap (λ x. x ∷ ss) first ∙ ap (λ xs. t ∷ xs) rest

    pub no_stop : (n : List Term) (ss ts : List Step) (i : ℕ) (p : List Term) (v : ℕ) (fault : PolyFault) → AreNextSteps units list n ss → NoneIsDue list (rest_of n ss) → AreNextSteps units list n ts → IsNextDue list (rest_of n ts) i p v → IsStepFault (rest_of n ts) p v fault → fault ≡ OutOfMemory
    no_stop n [] [] i p v fault a e b d f = absurd (e i p v d.member d.due)
    no_stop n [] (t ∷ ts) i p v fault a e b d f = absurd (e t.by b.0.poly b.0.var b.0.next.member b.0.next.due)
    no_stop n (s ∷ ss) [] i p v fault a e b d f = made_not_stopped n s i p v fault a.0 d f
    no_stop n (s ∷ ss) (t ∷ ts) i p v fault a e b d f =
        let first : s ≡ t = one_next_step n s t a.0 b.0 in
        no_stop t.reduction.r ss ts i p v fault (subst (λ (x : Step). AreNextSteps units list x.reduction.r ss) first a.1) (subst (λ (x : Step). NoneIsDue list (rest_of x.reduction.r ss)) first e) b.1 d f

    pub one_stop : (n : List Term) (ss ts : List Step) (i j : ℕ) (p q : List Term) (v w : ℕ) (f g : PolyFault) → AreNextSteps units list n ss → IsNextDue list (rest_of n ss) i p v → IsStepFault (rest_of n ss) p v f → AreNextSteps units list n ts → IsNextDue list (rest_of n ts) j q w → IsStepFault (rest_of n ts) q w g → f ≢ OutOfMemory → g ≢ OutOfMemory → f ≡ g
    one_stop n [] [] i j p q v w f g a d h b e k nf ng =
        let same = one_next n i j p q v w d e in
        one_fault (step_contributions w n q) f g (subst (λ x. IsStepFault n q x f) same.var (subst (λ x. IsStepFault n x v f) same.member h)) k nf ng
    one_stop n [] (t ∷ ts) i j p q v w f g a d h b e k nf ng = absurd (nf (made_not_stopped n t i p v f b.0 d h))
    one_stop n (s ∷ ss) [] i j p q v w f g a d h b e k nf ng = absurd (ng (made_not_stopped n s j q w g a.0 e k))
    one_stop n (s ∷ ss) (t ∷ ts) i j p q v w f g a d h b e k nf ng =
        let first : s ≡ t = one_next_step n s t a.0 b.0 in
        one_stop t.reduction.r ss ts i j p q v w f g (subst (λ (x : Step). AreNextSteps units list x.reduction.r ss) first a.1) (subst (λ (x : Step). IsNextDue list (rest_of x.reduction.r ss) i p v) first d) (subst (λ (x : Step). IsStepFault (rest_of x.reduction.r ss) p v f) first h) b.1 e k nf ng

    -- a fault that is not want of memory is a stopped step
    stopped : (n : List Term) (fault : PolyFault) → IsRemainderFault units list n fault → fault ≢ OutOfMemory → IsStopped units list n fault
    stopped n (Degree v) h m = h
    stopped n (Heavy v) h m = h
    stopped n OutOfMemory h m = absurd (m refl)

    pub no_remainder_fault : (n : List Term) (steps : List Step) (fault : PolyFault) → AreSteps units list n steps → IsRemainderFault units list n fault → fault ≡ OutOfMemory
    no_remainder_fault n steps OutOfMemory a h = refl
    no_remainder_fault n steps (Degree v) a h = no_stop n steps h.steps h.place h.poly h.var (Degree v) a.each a.finished h.each h.next h.stopped
    no_remainder_fault n steps (Heavy m) a h = no_stop n steps h.steps h.place h.poly h.var (Heavy m) a.each a.finished h.each h.next h.stopped

    pub one_remainder_fault : (n : List Term) (f g : PolyFault) → IsRemainderFault units list n f → IsRemainderFault units list n g → f ≢ OutOfMemory → g ≢ OutOfMemory → f ≡ g
    one_remainder_fault n f g h k nf ng =
        let a = stopped n f h nf in
        let b = stopped n g k ng in
        one_stop n a.steps b.steps a.place b.place a.poly b.poly a.var b.var f g a.each a.next a.stopped b.each b.next b.stopped nf ng
