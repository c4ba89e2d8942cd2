-- What the rules find.
use Rattle.std.specs.Prelude.{◌≡◌, ◌≢◌, ◌≤◌, ◌<◌, ℕ, ◌+◌, List, All}
use Rattle.std.specs.List.{Contains}
use Rattle.std.specs.declared.option.Option.{Option}
use Rattle.std.specs.declared.option.Option.TheVariants.{None, Some}
use Rattle.sparse_poly.specs.declared.Term.{Term}
use Rattle.sparse_poly.specs.Polynomials.{variable}
use Rattle.sparse_poly.specs.Contributions.{IsPoly}
use Rattle.sparse_poly.specs.Reads.{main_variable}
use Rattle.pseudo_rem.specs.declared.steps.Reduction.{Reduction}
use Rattle.char_set.specs.Triangular.{IsDecided}
use Rattle.derive_lines.specs.declared.parts.Item.{Item}
use Rattle.derive_lines.specs.declared.parts.Line.{Line}
use Rattle.derive_lines.specs.declared.parts.Way.TheVariants.{Back}
use Rattle.case_rules.specs.declared.moves.Move.{Move}
use Rattle.case_rules.specs.declared.moves.Move.TheVariants.{Reduce, Split}
use Rattle.case_rules.specs.Cases.{CaseState, known, poly, polys, count}
use Rattle.case_rules.specs.Kept.{AreAscending}
use Rattle.case_rules.specs.Rules.{IsLeast, IsGreatest, HasMain, IsPaired, IsPivot, IsOtherMain, IsInitialSplit}

-- nothing below n has a property
abbrev pub None_below : (ℕ → Type 0) → ℕ → Type 0
None_below P n = (i : ℕ) → i < n → ¬ P i

-- only what stands at this place may have a property
abbrev pub IsOnlyAt : (ℕ → Type 0) → Option ℕ → Type 0
IsOnlyAt P at = (i : ℕ) → P i → at ≡ Some i

-- place r is the first of n at which one of some polynomials stands, or n where none does
pub record IsFirstOf (c : CaseState) (ps : List (List Term)) (n r : ℕ) : Type 0 where
  pub within : r ≤ n
  pub none_below : (j : ℕ) → j < r → ¬ Contains ps (poly c j)
  pub stands : r ≢ n → Contains ps (poly c r)

-- an equation stands at this place, or there is no place
abbrev pub IsSomePlace : CaseState → Option ℕ → Type 0
IsSomePlace c None = Unit {0}
IsSomePlace c (Some i) = i < count c

-- of the first n places, m are the first that are left where place q is taken out
pub record IsLeftOf (n q m : ℕ) : Type 0 where
  pub before : (i : ℕ) → i < m → i < q → i < n
  pub after : (i : ℕ) → i < m → q ≤ i → i + 1 < n

-- the first n places go up to m, once something new may come to a place
abbrev pub IsMovedBy : Option ℕ → ℕ → ℕ → Type 0
IsMovedBy None n m = m ≤ n
IsMovedBy (Some k) n m = (k ≤ n → m ≤ n + 1) × (n < k → m ≤ n)

-- a polynomial is a variable
abbrev pub IsVariable : List Term → Type 0
IsVariable p = (v : ℕ) × (p ≡ variable v)

-- the equations are polynomials, not zero, and ascend strictly
pub record AreInOrder (c : CaseState) : Type 0 where
  pub polys : All IsPoly (polys c)
  pub ascending : AreAscending c.equations

-- no equation is constant
abbrev pub HaveMain : CaseState → Type 0
HaveMain c = (i : ℕ) → i < count c → main_variable (poly c i) ≢ None

-- each equation is decided
abbrev pub AreDecided : CaseState → Type 0
AreDecided c = (i : ℕ) → i < count c → IsDecided (known c) (poly c i)

-- v is the highest variable that is main in two equations, p the pivot of these, and q the least other one
pub record IsPair (c : CaseState) (q p v : ℕ) : Type 0 where
  pub highest : IsGreatest (IsPaired c) v
  pub pivot : IsPivot c v p
  pub least_other : IsLeast (IsOtherMain c p v) q

-- of the equations up to i, those from p on have the main variable v, and the one before p has not
pub record IsFirstWith (c : CaseState) (v i p : ℕ) : Type 0 where
  pub up_to : p ≤ i
  pub have : (j : ℕ) → p ≤ j → j ≤ i → HasMain c v j
  pub before : (j : ℕ) → j < p → HasMain c v j → ⊥

-- the split on the initial of equation i
abbrev pub IsSplitFor : CaseState → ℕ → Move → Type 0
IsSplitFor c i (Reduce q p v) = ⊥
IsSplitFor c i (Split by tail) = IsInitialSplit c i by tail

-- the line that leads back over a reduction
abbrev pub back_line : Option Item → Item → Reduction → List Term → Line
back_line from by s made = record { way = Back; from = from; by = Some by; l = s.l; a = s.a; m = s.m; made = made }
