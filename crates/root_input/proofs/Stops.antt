-- Bytes have one root, or one cause why they have none.
use Rattle.std.specs.Prelude.{◌≡◌, ◌≢◌, ℕ, List, refl}
use Rattle.std.proofs.Common.{ap, subst}
use Rattle.ring_file.specs.Problems.{Stated}
use Rattle.ring_file.specs.Reading.{IsProblemOf, IsProblemFault}
use Rattle.ring_file.specs.declared.problem.ProblemFault.{ProblemFault}
use Rattle.ring_file.specs.declared.problem.ProblemFault.TheVariants.{OutOfMemory as no_problem_memory}
use Rattle.root_system.specs.Forms.{RootEquations, max_equations}
use Rattle.root_system.specs.Root.{IsRootOf, IsRootFault}
use Rattle.root_system.specs.declared.root.RootFault.{RootFault}
use Rattle.root_system.specs.declared.root.RootFault.TheVariants.{TooManyUnknowns as many_unknowns, TooManyEquations as many_equations, OutOfMemory as no_root_memory}
use Rattle.root_input.specs.Faults.{root_stop}
use Rattle.root_input.specs.Inputs.{HasRoot, HasRootFault, IsRootStop}
use Rattle.root_input.specs.declared.fault.RootStop.{RootStop}
use Rattle.root_input.specs.declared.fault.RootStop.TheVariants.{Problem, TooManyUnknowns, TooManyEquations, OutOfMemory}

-- what the laws of problems and roots say
pub record AreOneAnswer : Type 0 where
  pub no_fault : (bytes : List ℕ) (p : Stated) (fault : ProblemFault) → IsProblemOf bytes p → IsProblemFault bytes fault → fault ≡ no_problem_memory
  pub one_fault : (bytes : List ℕ) (fault other : ProblemFault) → IsProblemFault bytes fault → IsProblemFault bytes other → fault ≢ no_problem_memory → other ≢ no_problem_memory → fault ≡ other
  pub one_problem : (bytes : List ℕ) (p q : Stated) → IsProblemOf bytes p → IsProblemOf bytes q → p ≡ q
  pub one_root : (p : Stated) (limit : ℕ) (root other : RootEquations) → IsRootOf p limit root → IsRootOf p limit other → root ≡ other
  pub no_root_fault : (p : Stated) (limit : ℕ) (root : RootEquations) (fault : RootFault) → IsRootOf p limit root → IsRootFault p limit fault → fault ≡ no_root_memory
  pub one_root_fault : (p : Stated) (limit : ℕ) (fault other : RootFault) → IsRootFault p limit fault → IsRootFault p limit other → fault ≢ no_root_memory → other ≢ no_root_memory → fault ≡ other

module _ (laws : AreOneAnswer) (bytes : List ℕ) where
  pub same_root : (problem other : Stated) (root twin : RootEquations) → HasRoot bytes problem root → HasRoot bytes other twin → root ≡ twin
  same_root problem other root twin h i =
      let same = laws.one_problem bytes other problem i.is_problem h.is_problem in
      laws.one_root problem max_equations root twin h.is_root (subst (λ (p : Stated). IsRootOf p max_equations twin) same i.is_root)

  -- a problem with a root has no fault
  faultless : (problem : Stated) (root : RootEquations) (fault : RootFault) → HasRoot bytes problem root → HasRootFault bytes fault → fault ≡ no_root_memory
  faultless problem root fault h i =
      let same = laws.one_problem bytes i.problem problem i.is_problem h.is_problem in
      laws.no_root_fault problem max_equations root fault h.is_root (subst (λ (p : Stated). IsRootFault p max_equations fault) same i.is_fault)

  pub no_stop : (problem : Stated) (root : RootEquations) (stop : RootStop) → HasRoot bytes problem root → IsRootStop bytes stop → stop ≡ OutOfMemory
  no_stop problem root (Problem fault) h i = absurd (i.1 (laws.no_fault bytes problem fault h.is_problem i.0))
  no_stop problem root (TooManyUnknowns count) h i = let e = faultless problem root (many_unknowns count) h i in absurd (cc)
  no_stop problem root (TooManyEquations count) h i = let e = faultless problem root (many_equations count) h i in absurd (cc)
  no_stop problem root OutOfMemory h i = refl

  -- bytes that state no problem state none without a root
  no_both : {X : Type 0} (fault : ProblemFault) (other : RootFault) → IsRootStop bytes (Problem fault) → HasRootFault bytes other → X
  no_both fault other h i = absurd (h.1 (laws.no_fault bytes i.problem fault i.is_problem h.0))

  same_fault : (fault other : RootFault) → HasRootFault bytes fault → HasRootFault bytes other → fault ≢ no_root_memory → other ≢ no_root_memory → root_stop fault ≡ root_stop other
  same_fault fault other h i apart away =
      let same = laws.one_problem bytes h.problem i.problem h.is_problem i.is_problem in
      ap root_stop (laws.one_root_fault i.problem max_equations fault other (subst (λ (p : Stated). IsRootFault p max_equations fault) same h.is_fault) i.is_fault apart away)

  pub one_stop : (stop other : RootStop) → IsRootStop bytes stop → IsRootStop bytes other → stop ≢ OutOfMemory → other ≢ OutOfMemory → stop ≡ other
  one_stop OutOfMemory other h i apart away = absurd (apart refl)
  one_stop (Problem fault) OutOfMemory h i apart away = absurd (away refl)
  one_stop (Problem fault) (Problem other) h i apart away = ap Problem (laws.one_fault bytes fault other h.0 i.0 h.1 i.1)
  one_stop (Problem fault) (TooManyUnknowns n) h i apart away = no_both fault (many_unknowns n) h i
  one_stop (Problem fault) (TooManyEquations n) h i apart away = no_both fault (many_equations n) h i
  one_stop (TooManyUnknowns m) OutOfMemory h i apart away = absurd (away refl)
  one_stop (TooManyUnknowns m) (Problem other) h i apart away = no_both other (many_unknowns m) i h
  one_stop (TooManyUnknowns m) (TooManyUnknowns n) h i apart away = same_fault (many_unknowns m) (many_unknowns n) h i (λ e. cc) (λ e. cc)
  one_stop (TooManyUnknowns m) (TooManyEquations n) h i apart away = same_fault (many_unknowns m) (many_equations n) h i (λ e. cc) (λ e. cc)
  one_stop (TooManyEquations m) OutOfMemory h i apart away = absurd (away refl)
  one_stop (TooManyEquations m) (Problem other) h i apart away = no_both other (many_equations m) i h
  one_stop (TooManyEquations m) (TooManyUnknowns n) h i apart away = same_fault (many_equations m) (many_unknowns n) h i (λ e. cc) (λ e. cc)
  one_stop (TooManyEquations m) (TooManyEquations n) h i apart away = same_fault (many_equations m) (many_equations n) h i (λ e. cc) (λ e. cc)
