-- The rules of the strategy: which move is due.
use Rattle.std.specs.Prelude.{◌≡◌, ◌≢◌, ℕ, ◌<◌, ◌⊎◌, List, [], length, slice_index_or}
use Rattle.std.specs.declared.option.Option.{Option}
use Rattle.std.specs.declared.option.Option.TheVariants.{None, Some}
use Rattle.sparse_poly.specs.declared.Term.{Term}
use Rattle.sparse_poly.specs.Polynomials.{variable}
use Rattle.sparse_poly.specs.Reads.{degree_in, main_variable}
use Rattle.sparse_poly.specs.Clearing.{IsDividedBy}
use Rattle.pseudo_rem.specs.declared.remainders.Step.{Step}
use Rattle.pseudo_rem.specs.Remainders.{AreNextSteps, rest_of}
use Rattle.char_set.specs.Triangular.{initial, IsDecided}
use Rattle.derive_lines.specs.Refuting.{IsContradiction}
use Rattle.case_rules.specs.declared.moves.Move.{Move}
use Rattle.case_rules.specs.declared.moves.Move.TheVariants.{Reduce, Split}
use Rattle.case_rules.specs.Cases.{CaseState, known, poly, polys, count}
use Rattle.case_rules.specs.Branches.{IsClearedInitial}

-- the least number with a property, and the greatest. Equations ascend, so the least place with a property is that of the least equation with it
pub record IsLeast (P : ℕ → Type 0) (i : ℕ) : Type 0 where
  pub has : P i
  pub none_below : (j : ℕ) → j < i → ¬ P j

pub record IsGreatest (P : ℕ → Type 0) (i : ℕ) : Type 0 where
  pub has : P i
  pub none_above : (j : ℕ) → i < j → ¬ P j

-- no number has a property
abbrev pub None_has : (ℕ → Type 0) → Type 0
None_has P = (i : ℕ) → ¬ P i

-- Dead: an equation that is a nonzero constant or a known condition
pub record IsDeadAt (c : CaseState) (i : ℕ) : Type 0 where
  pub place : i < count c
  pub contradiction : IsContradiction (known c) (poly c i)

-- no equation is a contradiction
abbrev pub IsAlive : CaseState → Type 0
IsAlive c = None_has (IsDeadAt c)

-- Linear: an equation of degree 1 in its main variable with a constant initial, and another equation that contains this variable
pub record IsLinearIn (p : List Term) (v : ℕ) : Type 0 where
  pub main : main_variable p ≡ Some v
  pub degree : degree_in v p ≡ 1
  pub constant : main_variable (initial p) ≡ None

pub record IsOtherWith (c : CaseState) (p v q : ℕ) : Type 0 where
  pub place : q < count c
  pub other : q ≢ p
  pub contains : 0 < degree_in v (poly c q)

pub record IsLinearAt (c : CaseState) (p : ℕ) : Type 0 where
  pub place : p < count c
  pub v : ℕ
  pub linear : IsLinearIn (poly c p) v
  pub q : ℕ
  pub other : IsOtherWith c p v q

-- the least such equation, in v, reduces the least other one with v
pub record IsLinearMove (c : CaseState) (q p v : ℕ) : Type 0 where
  pub least : IsLeast (IsLinearAt c) p
  pub linear : IsLinearIn (poly c p) v
  pub least_other : IsLeast (IsOtherWith c p v) q

-- Factor: an equation that a variable divides and that is not itself a variable
pub record IsFactorAt (c : CaseState) (i : ℕ) : Type 0 where
  pub place : i < count c
  pub v : ℕ
  pub divided : IsDividedBy v (poly c i)
  pub more : (w : ℕ) → poly c i ≢ variable w

-- the lowest variable that divides a polynomial
abbrev pub IsLowestDividing : List Term → ℕ → Type 0
IsLowestDividing p v = IsLeast (λ w. IsDividedBy w p) v

-- the least such equation splits on the lowest variable that divides it
pub record IsFactorMove (c : CaseState) (by : List Term) (tail : Option ℕ) : Type 0 where
  pub at : ℕ
  pub least : IsLeast (IsFactorAt c) at
  pub v : ℕ
  pub lowest : IsLowestDividing (poly c at) v
  pub is_variable : by ≡ variable v
  pub no_tail : tail ≡ None

-- a split on the initial of equation i, of which `rest` is left: on the lowest variable that divides the rest, or else on the rest, with the
-- tail step
abbrev pub IsSplitOn : List Term → ℕ → List Term → Option ℕ → Type 0
IsSplitOn rest i by tail = ((v : ℕ) × IsLowestDividing rest v × (by ≡ variable v) × (tail ≡ None)) ⊎ (None_has (λ v. IsDividedBy v rest) × (by ≡ rest) × (tail ≡ Some i))

pub record IsInitialSplit (c : CaseState) (i : ℕ) (by : List Term) (tail : Option ℕ) : Type 0 where
  pub v : ℕ
  pub factor : List Term
  pub rest : List Term
  pub initial : IsClearedInitial c i v factor rest
  pub on : IsSplitOn rest i by tail

-- Pair: a variable that is main in two equations
pub record HasMain (c : CaseState) (v i : ℕ) : Type 0 where
  pub place : i < count c
  pub main : main_variable (poly c i) ≡ Some v

pub record IsPaired (c : CaseState) (v : ℕ) : Type 0 where
  pub first : ℕ
  pub second : ℕ
  pub apart : first < second
  pub first_has : HasMain c v first
  pub second_has : HasMain c v second

-- of the equations with the main variable v, p has the least degree in it, and is the least of these
pub record IsPivot (c : CaseState) (v p : ℕ) : Type 0 where
  pub has : HasMain c v p
  pub least : (j : ℕ) → HasMain c v j → j ≢ p → (degree_in v (poly c p) < degree_in v (poly c j)) ⊎ ((degree_in v (poly c p) ≡ degree_in v (poly c j)) × (p < j))

pub record IsOtherMain (c : CaseState) (p v q : ℕ) : Type 0 where
  pub has : HasMain c v q
  pub other : q ≢ p

-- the pivot of the highest such variable is decided, and reduces the least other equation with this main variable
pub record IsPairReduction (c : CaseState) (q p v : ℕ) : Type 0 where
  pub highest : IsGreatest (IsPaired c) v
  pub pivot : IsPivot c v p
  pub decided : IsDecided (known c) (poly c p)
  pub least_other : IsLeast (IsOtherMain c p v) q

-- it is not decided, and the case splits on its initial
pub record IsPairSplit (c : CaseState) (by : List Term) (tail : Option ℕ) : Type 0 where
  pub v : ℕ
  pub highest : IsGreatest (IsPaired c) v
  pub p : ℕ
  pub pivot : IsPivot c v p
  pub undecided : ¬ IsDecided (known c) (poly c p)
  pub split : IsInitialSplit c p by tail

-- Initial: the least equation that is not decided splits on its initial
pub record IsUndecidedAt (c : CaseState) (i : ℕ) : Type 0 where
  pub place : i < count c
  pub undecided : ¬ IsDecided (known c) (poly c i)

pub record IsUndecidedSplit (c : CaseState) (by : List Term) (tail : Option ℕ) : Type 0 where
  pub at : ℕ
  pub least : IsLeast (IsUndecidedAt c) at
  pub split : IsInitialSplit c at by tail

-- the move that is due: the first of the rules Linear, Factor, Pair and Initial that applies gives it
pub data IsMove (c : CaseState) : Move → Type 0 where
  linear : (q p v : ℕ) → IsLinearMove c q p v → IsMove c (Reduce q p v)
  factor : (by : List Term) (tail : Option ℕ) → None_has (IsLinearAt c) → IsFactorMove c by tail → IsMove c (Split by tail)
  pair_reduction : (q p v : ℕ) → None_has (IsLinearAt c) → None_has (IsFactorAt c) → IsPairReduction c q p v → IsMove c (Reduce q p v)
  pair_split : (by : List Term) (tail : Option ℕ) → None_has (IsLinearAt c) → None_has (IsFactorAt c) → IsPairSplit c by tail → IsMove c (Split by tail)
  initial_split : (by : List Term) (tail : Option ℕ) → None_has (IsLinearAt c) → None_has (IsFactorAt c) → None_has (IsPaired c) → IsUndecidedSplit c by tail → IsMove c (Split by tail)

-- no move is due
pub record IsSettled (c : CaseState) : Type 0 where
  pub linear : None_has (IsLinearAt c)
  pub factor : None_has (IsFactorAt c)
  pub pair : None_has (IsPaired c)
  pub decided : (i : ℕ) → i < count c → IsDecided (known c) (poly c i)

-- Condition: known condition k has the full remainder zero by the equations, in these steps
pub record HasZeroRemainder (c : CaseState) (n : List Term) (steps : List Step) : Type 0 where
  pub each : AreNextSteps (known c) (polys c) n steps
  pub zero : rest_of n steps ≡ []

abbrev pub condition : CaseState → ℕ → List Term
condition c k = slice_index_or (known c) k []

pub record IsRefutedAt (c : CaseState) (k : ℕ) : Type 0 where
  pub place : k < length (known c)
  pub steps : List Step
  pub remainder : HasZeroRemainder c (condition c k) steps
