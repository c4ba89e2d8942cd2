-- The cone of a refutation: what its end needs.
use Rattle.std.specs.Prelude.{◌≡◌, ◌≢◌, ◌<◌, ◌≤◌, ◌↔◌, ◌⊎◌, ℕ, suc, true, false, pos, List, ◌∷◌, length, slice_get, []}
use Rattle.std.specs.declared.option.Option.{Option}
use Rattle.std.specs.declared.option.Option.TheVariants.{None, Some}
use Rattle.sparse_poly.specs.declared.Term.{Term}
use Rattle.sparse_poly.specs.Polynomials.{constant, variable}
use Rattle.sparse_poly.specs.Contributions.{IsPoly}
use Rattle.sparse_poly.specs.Units.{IsStripped}
use Rattle.sparse_poly.specs.Clearing.{IsDividedBy, IsDividedOutBy, IsCleared}
use Rattle.derive_lines.specs.declared.parts.Decision.{Decision}
use Rattle.derive_lines.specs.declared.parts.Line.{Line}
use Rattle.derive_lines.specs.declared.parts.Item.{Item}
use Rattle.derive_lines.specs.declared.parts.Item.TheVariants.{Root, Decision as of_decision, Line as of_line}
use Rattle.derive_lines.specs.Lines.{conditions, item_poly, multiplier}
use Rattle.derive_lines.specs.Refuting.{IsNonzeroConstant}
use Rattle.refute_cert.specs.Parts.{RefutationParts}

-- an item is needed: it is the end, or a needed line refers to it
pub data IsNeeded (lines : List Line) (end : Item) : Item → Type 0 where
  is_end : IsNeeded lines end end
  is_from : {k : ℕ} {line : Line} {item : Item} → IsNeeded lines end (of_line k) → slice_get lines k ≡ Some line → line.from ≡ Some item → IsNeeded lines end item
  is_by : {k : ℕ} {line : Line} {item : Item} → IsNeeded lines end (of_line k) → slice_get lines k ≡ Some line → line.by ≡ Some item → IsNeeded lines end item

-- that m is a unit rests on a condition n: n is a variable that divides m, or clearing m divides by n, or n is the rest of the strip or of the clearing
-- of m, and not 1
pub data RestsOn (ns : List (List Term)) (m n : List Term) : Type 0 where
  on_variable : {v : ℕ} → n ≡ variable v → IsDividedBy v m → RestsOn ns m n
  on_divisor : {f r : List Term} → IsStripped ns m f r → IsDividedOutBy ns n ns f r → RestsOn ns m n
  on_strip_rest : {f : List Term} → n ≢ constant (pos 1) → IsStripped ns m f n → RestsOn ns m n
  on_clear_rest : {f : List Term} → n ≢ constant (pos 1) → IsCleared ns m f n → RestsOn ns m n

-- the multipliers of lines are polynomials
abbrev pub HavePolyMultipliers : List Line → Type 0
HavePolyMultipliers ls = (k : ℕ) (line : Line) → slice_get ls k ≡ Some line → IsPoly (multiplier line)

-- the multiplier of a needed line rests on a condition
pub record IsKeptFor (ds : List Decision) (lines : List Line) (end : Item) (n : List Term) (k : ℕ) : Type 0 where
  pub line : Line
  pub is : slice_get lines k ≡ Some line
  pub needed : IsNeeded lines end (of_line k)
  pub rests : RestsOn (conditions ds) (multiplier line) n

-- the end is a condition, and no nonzero constant
pub record IsEndCondition (root : List (List Term)) (ds : List Decision) (lines : List Line) (end : Item) (n : List Term) : Type 0 where
  pub is : item_poly root ds lines end ≡ Some n
  pub varied : IsNonzeroConstant n → ⊥

-- a condition is kept: the multiplier of a needed line rests on it, or it is the end, which is no nonzero constant
abbrev pub IsKeptCondition : List (List Term) → List Decision → List Line → Item → List Term → Type 0
IsKeptCondition root ds lines end n = ((k : ℕ) × IsKeptFor ds lines end n k) ⊎ IsEndCondition root ds lines end n

-- decision j is kept: a zero decision that is a needed item, or a nonzero one whose condition is kept
pub record IsKeptZero (ds : List Decision) (lines : List Line) (end : Item) (j : ℕ) : Type 0 where
  pub decision : Decision
  pub is : slice_get ds j ≡ Some decision
  pub zero : decision.zero ≡ true
  pub needed : IsNeeded lines end (of_decision j)

pub record IsKeptNonzero (root : List (List Term)) (ds : List Decision) (lines : List Line) (end : Item) (j : ℕ) : Type 0 where
  pub decision : Decision
  pub is : slice_get ds j ≡ Some decision
  pub nonzero : decision.zero ≡ false
  pub kept : IsKeptCondition root ds lines end decision.poly

abbrev pub IsKept : List (List Term) → List Decision → List Line → Item → ℕ → Type 0
IsKept root ds lines end j = IsKeptZero ds lines end j ⊎ IsKeptNonzero root ds lines end j

-- places ascend strictly, from n on
abbrev pub AscendFrom : ℕ → List ℕ → Type 0
AscendFrom n [] = Unit {0}
AscendFrom n (k ∷ ks) = (n ≤ k) × AscendFrom (suc k) ks

-- a place is among these
abbrev pub IsAmong : List ℕ → ℕ → Type 0
IsAmong ks k = (i : ℕ) × (slice_get ks i ≡ Some k)

-- at the i-th of these places of a list stands something of which R holds
pub record StandsAt {X : Type 0} (xs : List X) (ks : List ℕ) (i : ℕ) (R : X → Type 0) : Type 0 where
  pub place : ℕ
  pub kept : slice_get ks i ≡ Some place
  pub old : X
  pub is : slice_get xs place ≡ Some old
  pub so : R old

-- an item by its new place, where the places of decisions and lines that are kept are these
abbrev pub IsRenumbered : List ℕ → List ℕ → Item → Item → Type 0
IsRenumbered js ks (Root i) item = item ≡ Root i
IsRenumbered js ks (of_decision j) item = (i : ℕ) × (item ≡ of_decision i) × (slice_get js i ≡ Some j)
IsRenumbered js ks (of_line k) item = (i : ℕ) × (item ≡ of_line i) × (slice_get ks i ≡ Some k)

abbrev pub IsRenumberedOperand : List ℕ → List ℕ → Option Item → Option Item → Type 0
IsRenumberedOperand js ks None o = o ≡ None
IsRenumberedOperand js ks (Some item) o = (new : Item) × (o ≡ Some new) × IsRenumbered js ks item new

-- a line with its items by their new places
pub record IsRenumberedLine (js ks : List ℕ) (line new : Line) : Type 0 where
  pub way : new.way ≡ line.way
  pub from : IsRenumberedOperand js ks line.from new.from
  pub by : IsRenumberedOperand js ks line.by new.by
  pub l : new.l ≡ line.l
  pub a : new.a ≡ line.a
  pub m : new.m ≡ line.m
  pub made : new.made ≡ line.made

-- the decisions and lines that are kept, in their order, with all items by their new places
pub record IsCone (root : List (List Term)) (ds : List Decision) (lines : List Line) (end : Item) (r : RefutationParts) : Type 0 where
  pub decisions_kept : List ℕ
  pub lines_kept : List ℕ
  pub decisions_ascend : AscendFrom 0 decisions_kept
  pub lines_ascend : AscendFrom 0 lines_kept
  pub decisions_are : (j : ℕ) → IsAmong decisions_kept j ↔ IsKept root ds lines end j
  pub lines_are : (k : ℕ) → IsAmong lines_kept k ↔ ((k < length lines) × IsNeeded lines end (of_line k))
  pub pattern_length : length r.pattern ≡ length decisions_kept
  pub pattern : (i : ℕ) (d : Decision) → slice_get r.pattern i ≡ Some d → StandsAt ds decisions_kept i (λ (old : Decision). old ≡ d)
  pub lines_length : length r.lines ≡ length lines_kept
  pub each_line : (i : ℕ) (new : Line) → slice_get r.lines i ≡ Some new → StandsAt lines lines_kept i (λ (old : Line). IsRenumberedLine decisions_kept lines_kept old new)
  pub end_is : IsRenumbered decisions_kept lines_kept end r.end
