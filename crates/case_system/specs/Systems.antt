-- Equations under known conditions, and how they change.
use Rattle.std.specs.Prelude.{◌≡◌, ℕ, List, [], ◌∷◌, ◌++◌, remove}
use Rattle.std.specs.declared.option.Option.{Option}
use Rattle.sparse_poly.specs.declared.Term.{Term}
use Rattle.derive_lines.specs.declared.parts.Line.{Line}
use Rattle.case_rules.specs.declared.equation.Equation.{Equation}
use Rattle.case_rules.specs.Kept.{added, all_added}
use Rattle.case_system.specs.Appending.{IsClearedBy, AreClearedBy, AreStrippedBy}
use Rattle.case_system.specs.Places.{HasPlace}

-- known conditions, the oldest first, and equations, ascending
pub record SystemState : Type 0 where
  pub conditions : List (List Term)
  pub equations : List Equation

-- other equations under the same conditions
abbrev pub with_equations : SystemState → List Equation → SystemState
with_equations s es = record { conditions = s.conditions; equations = es }

-- e is cleared, the lines for it are appended, and what is left is added
pub record IsAddedCleared (s : SystemState) (before : List Line) (e : Equation) (now : List Line) (s' : SystemState) : Type 0 where
  pub rest : Equation
  pub cleared : IsClearedBy s.conditions before e now rest
  pub is : s' ≡ with_equations s (added rest s.equations)

-- e is cleared, the lines for it are appended, and what is left is added in place of equation q, at this place
pub record IsReplaced (s : SystemState) (q : ℕ) (before : List Line) (e : Equation) (now : List Line) (at : Option ℕ) (s' : SystemState) : Type 0 where
  pub rest : Equation
  pub cleared : IsClearedBy s.conditions before e now rest
  pub place : HasPlace rest.poly (remove s.equations q) at
  pub is : s' ≡ with_equations s (added rest (remove s.equations q))

-- there is one more condition: all equations are stripped and then cleared, with the lines for it, and each is added to those before it
pub record HasCondition (s : SystemState) (by : List Term) (before now : List Line) (s' : SystemState) : Type 0 where
  pub middle : List Line
  pub stripped : List Equation
  pub are_stripped : AreStrippedBy (s.conditions ++ by ∷ []) before s.equations middle stripped
  pub cleared : List Equation
  pub are_cleared : AreClearedBy (s.conditions ++ by ∷ []) middle stripped now cleared
  pub is : s' ≡ record { conditions = s.conditions ++ by ∷ []; equations = all_added cleared [] }
