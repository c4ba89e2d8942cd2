-- Good leaves, the assignments that meet them, and what their check answers.
use Rattle.std.specs.Prelude.{◌≡◌, ◌≢◌, ◌<◌, ℕ, suc, List, slice_get, Contains, All}
use Rattle.std.specs.List.Sorted.{IsStrictlySortedBy}
use Rattle.std.specs.declared.cmp.Ordering.TheVariants.{Less}
use Rattle.std.specs.declared.option.Option.TheVariants.{None, Some}
use Rattle.field_laws.specs.Field.{Field}
use Rattle.sparse_poly.specs.declared.Term.{Term}
use Rattle.sparse_poly.specs.Contributions.{degree_of}
use Rattle.sparse_poly.specs.Order.{poly_cmp}
use Rattle.sparse_poly.specs.Units.{AllNonzero}
use Rattle.pseudo_rem.specs.Steps.{CanReduce, IsTail, step_contributions, tail_contributions}
use Rattle.char_set.specs.Triangular.{IsTriangular}
use Rattle.derive_lines.specs.declared.parts.Decision.{Decision}
use Rattle.derive_lines.specs.declared.parts.Line.{Line as DerivationLine}
use Rattle.derive_lines.specs.declared.parts.Item.{Item}
use Rattle.derive_lines.specs.Lines.{conditions, item_poly, AreGoodLines, IsHeavy, IsFirstBad}
use Rattle.derive_lines.specs.Recovery.{AllRecovered, IsLost}
use Rattle.derive_lines.specs.Refuting.{AllVanish}
use Rattle.leaf_cert.specs.Parts.{LeafParts}
use Rattle.leaf_cert.specs.declared.ends.StepKind.{StepKind}
use Rattle.leaf_cert.specs.declared.ends.StepKind.TheVariants.{Reduce, Tail}
use Rattle.leaf_cert.specs.declared.ends.OpenCause.{OpenCause}
use Rattle.leaf_cert.specs.declared.ends.OpenCause.TheVariants.{Budget, Coefficient, Degree}
use Rattle.leaf_cert.specs.declared.ends.LeafEnd.{LeafEnd}
use Rattle.leaf_cert.specs.declared.ends.LeafEnd.TheVariants.{Triangular, Open}
use Rattle.leaf_cert.specs.declared.leaf.LeafStop.{LeafStop}
use Rattle.leaf_cert.specs.declared.leaf.LeafStop.TheVariants.{Line, Equation, Lost, End, OutOfMemory}

-- contributions that are stopped by their degree, or else by a coefficient
abbrev pub IsTooHigh : List Term → Type 0
IsTooHigh cs = degree_of cs ≢ None

pub record IsTooHeavy (cs : List Term) : Type 0 where
  pub degree : degree_of cs ≡ None
  pub heavy : IsHeavy cs

-- q and p are equations, which differ, and q can be reduced by p
pub record IsReducible (equations : List (List Term)) (v : ℕ) (q p : List Term) : Type 0 where
  pub reduced : Contains equations q
  pub by : Contains equations p
  pub apart : q ≢ p
  pub can : CanReduce q p v

-- the reduction of an equation by another is stopped
pub record IsStoppedReduction (equations : List (List Term)) (v : ℕ) (q p : List Term) (IsStopped : List Term → Type 0) : Type 0 where
  pub reducible : IsReducible equations v q p
  pub stopped : IsStopped (step_contributions v q p)

-- the tail step of an equation q, whose initial is a factor times p, is stopped
pub record IsStoppedTail (equations units : List (List Term)) (v : ℕ) (q p : List Term) (IsStopped : List Term → Type 0) : Type 0 where
  pub reduced : Contains equations q
  pub factor : List Term
  pub tail : IsTail units v q factor p
  pub stopped : IsStopped (tail_contributions v q factor p)

abbrev pub IsStoppedStep : List (List Term) → List (List Term) → StepKind → ℕ → List Term → List Term → (List Term → Type 0) → Type 0
IsStoppedStep equations units Reduce v q p IsStopped = IsStoppedReduction equations v q p IsStopped
IsStoppedStep equations units Tail v q p IsStopped = IsStoppedTail equations units v q p IsStopped

-- the end of a leaf checks
abbrev pub IsOpenFor : List (List Term) → List (List Term) → OpenCause → Type 0
IsOpenFor equations units Budget = Unit {0}
IsOpenFor equations units (Coefficient s) = IsStoppedStep equations units s.step s.v s.q s.p IsTooHeavy
IsOpenFor equations units (Degree s) = IsStoppedStep equations units s.step s.v s.q s.p IsTooHigh

abbrev pub EndChecks : List (List Term) → List (List Term) → LeafEnd → Type 0
EndChecks equations units Triangular = IsTriangular equations units
EndChecks equations units (Open cause) = IsOpenFor equations units cause

-- a polynomial is that of an item
pub record IsItem (root : List (List Term)) (ds : List Decision) (ls : List DerivationLine) (p : List Term) : Type 0 where
  pub item : Item
  pub is : item_poly root ds ls item ≡ Some p

-- the equations are items and strictly ascending
pub record AreEquations (root : List (List Term)) (ds : List Decision) (ls : List DerivationLine) (equations : List (List Term)) : Type 0 where
  pub items : All (IsItem root ds ls) equations
  pub ascending : IsStrictlySortedBy poly_cmp equations

-- equation i is an item, and above the one before it
pub record IsGoodEquation (root : List (List Term)) (ds : List Decision) (ls : List DerivationLine) (equations : List (List Term)) (i : ℕ) (p : List Term) : Type 0 where
  pub item : IsItem root ds ls p
  pub above : (j : ℕ) (q : List Term) → suc j ≡ i → slice_get equations j ≡ Some q → poly_cmp q p ≡ Less

-- equation i is the first that is no item or not above the one before it
pub record IsBadEquation (root : List (List Term)) (ds : List Decision) (ls : List DerivationLine) (equations : List (List Term)) (i : ℕ) : Type 0 where
  pub poly : List Term
  pub is : slice_get equations i ≡ Some poly
  pub bad : IsGoodEquation root ds ls equations i poly → ⊥
  pub first : (j : ℕ) (q : List Term) → j < i → slice_get equations j ≡ Some q → IsGoodEquation root ds ls equations j q

-- a good leaf
pub record GoodLeaf (root : List (List Term)) (leaf : LeafParts) : Type 0 where
  pub lines : AreGoodLines root leaf.decisions leaf.lines
  pub equations : AreEquations root leaf.decisions leaf.lines leaf.equations
  pub recovered : AllRecovered root leaf.decisions leaf.lines leaf.equations
  pub end : EndChecks leaf.equations (conditions leaf.decisions) leaf.end

-- an assignment meets a leaf: all its equations vanish, and none of its conditions does
pub record Meets {E : Type 0} (f : Field E) (s : List E) (leaf : LeafParts) : Type 0 where
  pub equations : AllVanish f s leaf.equations
  pub conditions : AllNonzero f s (conditions leaf.decisions)

-- a leaf has these parts and is good
pub record IsLeaf (root : List (List Term)) (ds : List Decision) (ls : List DerivationLine) (equations : List (List Term)) (end : LeafEnd) (leaf : LeafParts) : Type 0 where
  pub decisions_are : leaf.decisions ≡ ds
  pub lines_are : leaf.lines ≡ ls
  pub equations_are : leaf.equations ≡ equations
  pub end_is : leaf.end ≡ end
  pub good : GoodLeaf root leaf

-- why parts are no leaf, the first cause in this order
abbrev pub IsLeafStop : List (List Term) → List Decision → List DerivationLine → List (List Term) → LeafEnd → LeafStop → Type 0
IsLeafStop root ds ls equations end (Line k cause) = IsFirstBad root ds ls k cause
IsLeafStop root ds ls equations end (Equation i) = AreGoodLines root ds ls × IsBadEquation root ds ls equations i
IsLeafStop root ds ls equations end (Lost item) = AreGoodLines root ds ls × AreEquations root ds ls equations × IsLost root ds ls equations item
IsLeafStop root ds ls equations end End = AreGoodLines root ds ls × AreEquations root ds ls equations × AllRecovered root ds ls equations × (EndChecks equations (conditions ds) end → ⊥)
IsLeafStop root ds ls equations end OutOfMemory = Unit {0}
