-- The end of the strategy on a case.
use Rattle.std.specs.Prelude.{◌≡◌, ℕ, zero, suc, ◌+◌, ◌<◌, ◌≤◌, true, false, List, [], ◌∷◌, ◌++◌, length}
use Rattle.std.specs.declared.option.Option.{Option}
use Rattle.std.specs.declared.option.Option.TheVariants.{None, Some}
use Rattle.sparse_poly.specs.declared.Term.{Term}
use Rattle.pseudo_rem.specs.declared.remainders.Step.{Step}
use Rattle.pseudo_rem.specs.Steps.{step_contributions, tail_contributions}
use Rattle.derive_lines.specs.declared.parts.Item.{Item}
use Rattle.derive_lines.specs.declared.parts.Item.TheVariants as item
use Rattle.derive_lines.specs.declared.parts.Line.{Line}
use Rattle.derive_lines.specs.declared.parts.Way.TheVariants.{Back}
use Rattle.refute_cert.specs.Parts.{RefutationParts}
use Rattle.refute_cert.specs.Cone.{IsCone}
use Rattle.leaf_cert.specs.declared.ends.LeafEnd.{LeafEnd}
use Rattle.leaf_cert.specs.declared.ends.LeafEnd.TheVariants as leaf_end
use Rattle.leaf_cert.specs.declared.ends.OpenCause.{OpenCause}
use Rattle.leaf_cert.specs.declared.ends.OpenCause.TheVariants as cause
use Rattle.leaf_cert.specs.declared.ends.Stop.{Stop}
use Rattle.leaf_cert.specs.declared.ends.StepKind.TheVariants as kind
use Rattle.leaf_cert.specs.Leaves.{IsTooHigh, IsTooHeavy}
use Rattle.leaf_cert.specs.Parts.{LeafParts}
use Rattle.case_rules.specs.declared.moves.Move.{Move}
use Rattle.case_rules.specs.declared.moves.Move.TheVariants as move_
use Rattle.case_rules.specs.declared.outcome.Outcome.{Outcome}
use Rattle.case_rules.specs.declared.outcome.Outcome.TheVariants as outcome
use Rattle.case_rules.specs.Cases.{CaseState, equation, poly, polys}
use Rattle.case_rules.specs.Branches.{IsReduced, IsBranch, IsClearedInitial}
use Rattle.case_rules.specs.Rules.{IsLeast, None_has, IsDeadAt, IsAlive, IsMove, IsSettled, condition, HasZeroRemainder, IsRefutedAt}

-- how a case ends: by both branches of a split, a refutation or a leaf
abbrev pub End : Type 0
End = Outcome CaseState RefutationParts LeafParts

-- a case as a leaf with this end: all its decisions, lines and equations
abbrev pub leaf_of : CaseState → LeafEnd → LeafParts
leaf_of c end = record { decisions = c.decisions; lines = c.lines; equations = polys c; end = end }

-- the step of these contributions is stopped for this cause
abbrev pub IsStoppedBy : List Term → Stop → OpenCause → Type 0
IsStoppedBy cs stop cause.Budget = ⊥
IsStoppedBy cs stop (cause.Coefficient s) = (s ≡ stop) × IsTooHeavy cs
IsStoppedBy cs stop (cause.Degree s) = (s ≡ stop) × IsTooHigh cs

-- the reduction of equation q by equation p in v is stopped for this cause
abbrev pub IsReductionStopped : CaseState → ℕ → ℕ → ℕ → OpenCause → Type 0
IsReductionStopped c q p v why = IsStoppedBy (step_contributions v (poly c q) (poly c p)) (record { step = kind.Reduce; v = v; q = poly c q; p = poly c p }) why

-- the tail step of a split on what is left of the initial of equation i is stopped for this cause
pub record IsTailStopped (c : CaseState) (s : List Term) (i : ℕ) (why : OpenCause) : Type 0 where
  pub v : ℕ
  pub u : List Term
  pub initial : IsClearedInitial c i v u s
  pub stopped : IsStoppedBy (tail_contributions v (poly c i) u s) (record { step = kind.Tail; v = v; q = poly c i; p = s }) why

-- the last of n lines that are numbered from k on
abbrev pub last_line : ℕ → ℕ → Option Item
last_line k zero = None
last_line k (suc n) = Some (item.Line (k + n))

-- the lines that lead from zero back to n, by the steps of its remainder from the last to the first, numbered from k on
abbrev pub back_lines : CaseState → ℕ → List Term → List Step → List Line
back_lines c k n [] = []
back_lines c k n (s ∷ ss) = back_lines c k s.reduction.r ss ++ record { way = Back; from = last_line k (length ss); by = Some (equation c s.by).item; l = s.reduction.l; a = s.reduction.a; m = s.reduction.m; made = n } ∷ []

-- known condition k is refuted: its full remainder is zero, the lines that lead back from it are appended, and the last of them is the end
pub record IsRefutation (root : List (List Term)) (c : CaseState) (k : ℕ) (r : RefutationParts) : Type 0 where
  pub steps : List Step
  pub remainder : HasZeroRemainder c (condition c k) steps
  pub last : ℕ
  pub last_is : last + 1 ≡ length c.lines + length steps
  pub cone : IsCone root c.decisions (c.lines ++ back_lines c (length c.lines) (condition c k) steps) (item.Line last) r

-- the end of the strategy on a case: moves are made until the case is dead, split, stopped, refuted or triangular
pub data IsEnd (root : List (List Term)) (budget : ℕ) : CaseState → End → Type 0 where
  dead : (c : CaseState) (i : ℕ) (r : RefutationParts) → IsLeast (IsDeadAt c) i → IsCone root c.decisions c.lines (equation c i).item r → IsEnd root budget c (outcome.Dead r)
  spent : (c : CaseState) (m : Move) → IsAlive c → IsMove c m → budget ≤ c.moves → IsEnd root budget c (outcome.Leaf (leaf_of c (leaf_end.Open cause.Budget)))
  reduced : (c : CaseState) (q p v : ℕ) (c' : CaseState) (o : End) → IsAlive c → IsMove c (move_.Reduce q p v) → c.moves < budget → IsReduced c q p v c' → IsEnd root budget c' o → IsEnd root budget c o
  reduction_stopped : (c : CaseState) (q p v : ℕ) (why : OpenCause) → IsAlive c → IsMove c (move_.Reduce q p v) → c.moves < budget → IsReductionStopped c q p v why → IsEnd root budget c (outcome.Leaf (leaf_of c (leaf_end.Open why)))
  split : (c : CaseState) (by : List Term) (tail : Option ℕ) (zero nonzero : CaseState) → IsAlive c → IsMove c (move_.Split by tail) → c.moves < budget → IsBranch c by true tail zero → IsBranch c by false tail nonzero → IsEnd root budget c (outcome.Split by zero nonzero)
  tail_stopped : (c : CaseState) (by : List Term) (i : ℕ) (why : OpenCause) → IsAlive c → IsMove c (move_.Split by (Some i)) → c.moves < budget → IsTailStopped c by i why → IsEnd root budget c (outcome.Leaf (leaf_of c (leaf_end.Open why)))
  refuted : (c : CaseState) (k : ℕ) (r : RefutationParts) → IsAlive c → IsSettled c → IsLeast (IsRefutedAt c) k → IsRefutation root c k r → IsEnd root budget c (outcome.Dead r)
  triangular : (c : CaseState) → IsAlive c → IsSettled c → None_has (IsRefutedAt c) → IsEnd root budget c (outcome.Leaf (leaf_of c leaf_end.Triangular))
