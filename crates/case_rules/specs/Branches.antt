-- How a case goes on: a reduction, and the two branches of a split.
use Rattle.std.specs.Prelude.{◌≡◌, ◌≢◌, ℕ, ◌+◌, ◌<◌, Bool, true, false, List, [], ◌∷◌, ◌++◌, length, remove}
use Rattle.std.specs.declared.option.Option.{Option}
use Rattle.std.specs.declared.option.Option.TheVariants.{None, Some}
use Rattle.sparse_poly.specs.declared.Term.{Term}
use Rattle.sparse_poly.specs.declared.PolyFault.{PolyFault}
use Rattle.sparse_poly.specs.declared.PolyFault.TheVariants.{OutOfMemory}
use Rattle.sparse_poly.specs.Polynomials.{variable}
use Rattle.sparse_poly.specs.Reads.{main_variable, leading_in}
use Rattle.sparse_poly.specs.Clearing.{IsCleared, IsInForm, IsUnit}
use Rattle.pseudo_rem.specs.declared.steps.Reduction.{Reduction}
use Rattle.pseudo_rem.specs.Steps as steps
use Rattle.pseudo_rem.specs.Steps.{IsReduction, IsTailStep, IsTailFault}
use Rattle.derive_lines.specs.declared.parts.Decision.{Decision}
use Rattle.derive_lines.specs.declared.parts.Item.{Item}
use Rattle.derive_lines.specs.declared.parts.Item.TheVariants as item
use Rattle.derive_lines.specs.declared.parts.Line.{Line}
use Rattle.derive_lines.specs.declared.parts.Way.TheVariants.{Fwd}
use Rattle.derive_lines.specs.Lines.{conditions}
use Rattle.derive_lines.specs.Refuting.{decided}
use Rattle.case_rules.specs.declared.equation.Equation.{Equation}
use Rattle.case_rules.specs.declared.moves.Move.{Move}
use Rattle.case_rules.specs.declared.moves.Move.TheVariants.{Reduce, Split}
use Rattle.case_rules.specs.Cases.{CaseState, known, equation, poly}
use Rattle.case_rules.specs.Kept.{added, all_added, item_of}
use Rattle.case_rules.specs.Clearings.{made, IsClearing, AreCleared, AreStripped}

-- the line of a step on the equation of the item `from` by that of the item `by`
abbrev pub step_line : Item → Item → Reduction → Line
step_line from by s = record { way = Fwd; from = Some from; by = Some by; l = s.l; a = s.a; m = s.m; made = s.r }

-- a case after a move: with these decisions and lines, one move more, and an equation added to those that are left
abbrev pub stepped : CaseState → List Decision → List Equation → List Line → Equation → CaseState
stepped c decisions left lines e = record { decisions = decisions; equations = added e left; lines = c.lines ++ lines; moves = c.moves + 1 }

-- equation q is reduced by equation p in v: the line of the step and those that clear what it makes are appended, and what is left takes the
-- place of q
pub record IsReduced (c : CaseState) (q p v : ℕ) (c' : CaseState) : Type 0 where
  pub step : Reduction
  pub reduction : IsReduction (known c) (poly c q) (poly c p) v step
  pub lines : List Line
  pub rest : Equation
  pub clearing : IsClearing (known c) (length c.lines + 1) (made step.r (length c.lines)) lines rest
  pub is : c' ≡ stepped c c.decisions (remove c.equations q) (step_line (equation c q).item (equation c p).item step ∷ lines) rest

-- the branch in which s is not zero: all equations are stripped, and then all are cleared
pub record IsNonzeroBranch (c : CaseState) (s : List Term) (c' : CaseState) : Type 0 where
  pub strips : List Line
  pub stripped : List Equation
  pub are_stripped : AreStripped (conditions (decided c.decisions s false)) (length c.lines) c.equations strips stripped
  pub clears : List Line
  pub cleared : List Equation
  pub are_cleared : AreCleared (conditions (decided c.decisions s false)) (length c.lines + length strips) stripped clears cleared
  pub is : c' ≡ record { decisions = decided c.decisions s false; equations = all_added cleared []; lines = c.lines ++ (strips ++ clears); moves = c.moves + 1 }

-- s as an equation: by the new decision, unless it is an equation already
abbrev pub zero_equation : CaseState → List Term → Equation
zero_equation c s = record { poly = s; item = item_of s (item.Decision (length c.decisions)) c.equations }

-- the branch in which s is zero, where s is a variable
abbrev pub IsZeroBranch : CaseState → List Term → CaseState → Type 0
IsZeroBranch c s c' = c' ≡ record { decisions = decided c.decisions s true; equations = added (zero_equation c s) c.equations; lines = c.lines; moves = c.moves + 1 }

-- the initial of equation i, whose main variable is v, is u times s, cleared of the known conditions
pub record IsClearedInitial (c : CaseState) (i v : ℕ) (u s : List Term) : Type 0 where
  pub main : main_variable (poly c i) ≡ Some v
  pub cleared : IsCleared (known c) (leading_in v (poly c i)) u s

-- a step is the tail step by s, what is left of the initial of equation i
pub record IsTailOf (c : CaseState) (s : List Term) (i : ℕ) (step : Reduction) : Type 0 where
  pub v : ℕ
  pub u : List Term
  pub initial : IsClearedInitial c i v u s
  pub tail : IsTailStep (known c) v (poly c i) u s step

-- the branch in which s is zero, where s is what is left of the initial of equation i: the equation loses its initial
pub record IsTailBranch (c : CaseState) (s : List Term) (i : ℕ) (c' : CaseState) : Type 0 where
  pub step : Reduction
  pub tail : IsTailOf c s i step
  pub lines : List Line
  pub rest : Equation
  pub clearing : IsClearing (known c) (length c.lines + 1) (made step.r (length c.lines)) lines rest
  pub is : c' ≡ stepped c (decided c.decisions s true) (added (zero_equation c s) (remove c.equations i))
      (step_line (equation c i).item (zero_equation c s).item step ∷ lines) rest

-- one branch of a split on s, which is a variable or what is left of the initial of an equation
abbrev pub IsBranch : CaseState → List Term → Bool → Option ℕ → CaseState → Type 0
IsBranch c s true None c' = IsZeroBranch c s c'
IsBranch c s true (Some i) c' = IsTailBranch c s i c'
IsBranch c s false tail c' = IsNonzeroBranch c s c'

-- the tail step of the zero branch, with what is left of the initial of equation i, is refused
pub record IsTailRefused (c : CaseState) (s : List Term) (i : ℕ) (e : PolyFault) : Type 0 where
  pub v : ℕ
  pub u : List Term
  pub initial : IsClearedInitial c i v u s
  pub fault : IsTailFault v (poly c i) u s e

-- why a branch is not made: want of memory, or else its tail step
abbrev pub IsBranchFault : CaseState → List Term → Bool → Option ℕ → PolyFault → Type 0
IsBranchFault c s zero tail OutOfMemory = Unit {0}
IsBranchFault c s true (Some i) e = IsTailRefused c s i e
IsBranchFault c s zero tail e = ⊥

-- what a case may be split on with a tail step: what is left of the initial of equation i, in form
pub record IsTail (c : CaseState) (s : List Term) (i : ℕ) : Type 0 where
  pub place : i < length c.equations
  pub v : ℕ
  pub u : List Term
  pub initial : IsClearedInitial c i v u s
  pub in_form : IsInForm s

-- what a case may be split on: a variable, or what is left of an initial
abbrev pub CanSplit : CaseState → List Term → Option ℕ → Type 0
CanSplit c s None = (v : ℕ) × (s ≡ variable v)
CanSplit c s (Some i) = IsTail c s i

-- equation q may be reduced by another equation p in v, since the coefficient of the highest power of v in p is a unit
pub record CanReduce (c : CaseState) (q p v : ℕ) : Type 0 where
  pub q_place : q < length c.equations
  pub p_place : p < length c.equations
  pub apart : q ≢ p
  pub can : steps.CanReduce (poly c q) (poly c p) v
  pub unit : IsUnit (known c) (leading_in v (poly c p))

-- a move may be made
abbrev pub CanMake : CaseState → Move → Type 0
CanMake c (Reduce q p v) = CanReduce c q p v
CanMake c (Split by tail) = CanSplit c by tail
