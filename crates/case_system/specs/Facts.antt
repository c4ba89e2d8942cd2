-- What is known of equations under known conditions.
use Rattle.std.specs.Prelude.{◌≤◌, ℕ, List, [], ◌∷◌, length, insert}
use Rattle.std.specs.declared.option.Option.{Option}
use Rattle.std.specs.declared.option.Option.TheVariants.{None, Some}
use Rattle.sparse_poly.specs.declared.Term.{Term}
use Rattle.case_rules.specs.declared.equation.Equation.{Equation}
use Rattle.case_system.specs.declared.kept.Facts.{Facts}
use Rattle.case_system.specs.Clean.{IsCleanTo, IsBareTo}
use Rattle.case_system.specs.Outlines.{IsOutlineOf}
use Rattle.case_system.specs.Places.{Ascend}

-- the facts of p
pub record HasFacts (units : List (List Term)) (p : List Term) (f : Facts) : Type 0 where
  pub clean : IsCleanTo units p f.clean
  pub outline : IsOutlineOf p f.outline

-- the facts of p once it is stripped of all conditions
pub record HasBareFacts (units : List (List Term)) (p : List Term) (f : Facts) : Type 0 where
  pub bare : IsBareTo units p f.clean
  pub outline : IsOutlineOf p f.outline

-- each equation has its facts
abbrev pub HaveFacts : List (List Term) → List Equation → List Facts → Type 0
HaveFacts units [] [] = Unit {0}
HaveFacts units [] (f ∷ fs) = ⊥
HaveFacts units (e ∷ es) [] = ⊥
HaveFacts units (e ∷ es) (f ∷ fs) = HasFacts units e.poly f × HaveFacts units es fs

-- facts go where a new equation goes
abbrev pub with_facts : Option ℕ → Facts → List Facts → List Facts
with_facts None f fs = fs
with_facts (Some i) f fs = insert fs i f

abbrev pub IsFactsPlace : Option ℕ → List Facts → Type 0
IsFactsPlace None fs = Unit {0}
IsFactsPlace (Some i) fs = i ≤ length fs

-- what is kept under known conditions: the equations ascend, and each has its facts
pub record IsKept (units : List (List Term)) (es : List Equation) (fs : List Facts) : Type 0 where
  pub ascending : Ascend es
  pub known : HaveFacts units es fs
