-- Cases whose variables are below n: a reduction and a branch keep this.
use Rattle.std.specs.Prelude.{◌≢◌, ◌<◌, ◌+◌, ℕ, Bool, true, false, List, [], ◌∷◌, ◌++◌, length, remove}
use Rattle.std.proofs.Common.{sym, subst}
use Rattle.std.specs.List.{AllByRecursion}
use Rattle.std.specs.declared.option.Option.{Option}
use Rattle.std.specs.declared.option.Option.TheVariants.{None, Some}
use Rattle.sparse_poly.specs.declared.Term.{Term}
use Rattle.sparse_poly.proofs.Descending.{all_both, all_more}
use Rattle.pseudo_rem.specs.declared.steps.Reduction.{Reduction}
use Rattle.derive_lines.specs.declared.parts.Decision.{Decision}
use Rattle.derive_lines.specs.declared.parts.Item.{Item}
use Rattle.derive_lines.specs.declared.parts.Line.{Line}
use Rattle.derive_lines.specs.Lines.{conditions}
use Rattle.derive_lines.specs.Refuting.{decided}
use Rattle.case_rules.specs.declared.equation.Equation.{Equation}
use Rattle.case_rules.specs.Cases.{CaseState, known, equation, poly}
use Rattle.case_rules.specs.Kept.{added}
use Rattle.case_rules.specs.Clearings.{made, IsClearing}
use Rattle.case_rules.specs.Branches.{step_line, stepped, zero_equation, IsReduced, IsClearedInitial, IsZeroBranch, IsTailBranch, IsNonzeroBranch, IsBranch}
use Rattle.case_rules.proofs.AddedEquations.{every_added, every_all_added, every_removed}
use Rattle.case_rules.proofs.Regular.{every_at, no_terms}
use Rattle.sparse_poly.specs.Reads.{HasVariablesBelow}
use Rattle.leaf_cert.specs.Variables.{HasDecisionVariablesBelow, HasLineVariablesBelow}
use Rattle.legal_ranges.proofs.ReadParts.{main_below}
use Rattle.legal_ranges.proofs.Strips.{IsPolyBelow, ArePolysBelow}
use Rattle.legal_ranges.proofs.Steps.{IsStepBelow, reduction_below, tail_below, initial_below}
use Rattle.legal_ranges.proofs.Clearings.{AreLinesBelow, IsEquationBelow, AreEquationsBelow, clearing_below, clearings_below, strips_below}

module _ (n : ℕ) where
  abbrev pub AreDecisionsBelow : List Decision → Type 0
  AreDecisionsBelow ds = AllByRecursion (HasDecisionVariablesBelow n) ds

  -- a case with its variables below n
  pub record IsCaseBelow (c : CaseState) : Type 0 where
    pub decisions : AreDecisionsBelow c.decisions
    pub lines : AreLinesBelow n c.lines
    pub equations : AreEquationsBelow n c.equations

  pub poly_at : (c : CaseState) (i : ℕ) → IsCaseBelow c → IsPolyBelow n (poly c i)
  poly_at c i h = every_at (IsEquationBelow n) c.equations i (record { poly = no_terms; below = tt }) h.equations

  decided_below : (ds : List Decision) (s : List Term) (zero : Bool) → AreDecisionsBelow ds → HasVariablesBelow n s → AreDecisionsBelow (decided ds s zero)
  decided_below ds s zero h i = all_more (HasDecisionVariablesBelow n) ds (record { poly = s; zero = zero }) h i

  -- a case after a step, whose line is followed by those that clear what it makes
  after_below : (c : CaseState) (ds : List Decision) (left : List Equation) (from by : Item) (s : Reduction) (k : ℕ) (lines : List Line) (e : Equation) → IsCaseBelow c → AreDecisionsBelow ds → AreEquationsBelow n left → IsStepBelow n s → IsClearing (known c) (k + 1) (made s.r k) lines e → IsCaseBelow (stepped c ds left (step_line from by s ∷ lines) e)
  after_below c ds left from by s k lines e h d l i clearing =
      let more = clearing_below n (known c) (k + 1) (made s.r k) lines e i.r clearing in
      record {
        decisions = d;
        lines = all_both (HasLineVariablesBelow n) c.lines (step_line from by s ∷ lines) h.lines (record { l = i.l; a = i.a; m = i.m; made = i.r.below }, more.lines_are);
        equations = every_added (IsEquationBelow n) e left (λ z. more.equation) l;
      }

  pub reduced_below : (c : CaseState) (q p v : ℕ) (d : CaseState) → v < n → IsCaseBelow c → IsReduced c q p v d → IsCaseBelow d
  reduced_below c q p v d l h r =
      let step : IsStepBelow n r.step = reduction_below n (known c) (poly c q) (poly c p) v r.step l (poly_at c q h).below (poly_at c p h).below r.reduction in
      subst IsCaseBelow (sym r.is)
      (after_below c c.decisions (remove c.equations q) (equation c q).item (equation c p).item r.step (length c.lines) r.lines r.rest h h.decisions (every_removed (IsEquationBelow n) c.equations q h.equations) step r.clearing)

  zero_below : (c : CaseState) (s : List Term) (d : CaseState) → IsPolyBelow n s → IsCaseBelow c → IsZeroBranch c s d → IsCaseBelow d
  zero_below c s d i h r = subst IsCaseBelow (sym r) (record {
    decisions = decided_below c.decisions s true h.decisions i.below;
    lines = h.lines;
    equations = every_added (IsEquationBelow n) (zero_equation c s) c.equations (λ z. i) h.equations;
  })

  -- the initial of an equation: its main variable, what was divided out and what is left
  pub main_at : (c : CaseState) (i v : ℕ) (u s : List Term) → IsCaseBelow c → IsClearedInitial c i v u s → v < n
  main_at c i v u s h a = main_below n v (poly c i) a.main (poly_at c i h).below

  pub initial_at : (c : CaseState) (i v : ℕ) (u s : List Term) → IsCaseBelow c → IsClearedInitial c i v u s → ArePolysBelow n u s
  initial_at c i v u s h a = initial_below n (known c) v (poly c i) u s (poly_at c i h) a.cleared

  loss_below : (c : CaseState) (s : List Term) (i : ℕ) (d : CaseState) → IsPolyBelow n s → IsCaseBelow c → IsTailBranch c s i d → IsCaseBelow d
  loss_below c s i d b h r =
      let v : ℕ = r.tail.v in
      let u : List Term = r.tail.u in
      let step : IsStepBelow n r.step = tail_below n (known c) v (poly c i) u s r.step (main_at c i v u s h r.tail.initial) (poly_at c i h).below (initial_at c i v u s h r.tail.initial).factor.below b.below r.tail.tail in
      let left : AreEquationsBelow n (added (zero_equation c s) (remove c.equations i)) = every_added (IsEquationBelow n) (zero_equation c s) (remove c.equations i) (λ z. b) (every_removed (IsEquationBelow n) c.equations i h.equations) in
      subst IsCaseBelow (sym r.is)
      (after_below c (decided c.decisions s true) (added (zero_equation c s) (remove c.equations i)) (equation c i).item (zero_equation c s).item r.step (length c.lines) r.lines r.rest h (decided_below c.decisions s true h.decisions b.below) left step r.clearing)

  nonzero_below : (c : CaseState) (s : List Term) (d : CaseState) → IsPolyBelow n s → IsCaseBelow c → IsNonzeroBranch c s d → IsCaseBelow d
  nonzero_below c s d i h r =
      let ns : List (List Term) = conditions (decided c.decisions s false) in
      let stripped = strips_below n ns (length c.lines) c.equations r.strips r.stripped h.equations r.are_stripped in
      let cleared = clearings_below n ns (length c.lines + length r.strips) r.stripped r.clears r.cleared stripped.equations r.are_cleared in
      subst IsCaseBelow (sym r.is) (record {
        decisions = decided_below c.decisions s false h.decisions i.below;
        lines = all_both (HasLineVariablesBelow n) c.lines (r.strips ++ r.clears) h.lines (all_both (HasLineVariablesBelow n) r.strips r.clears stripped.lines_are cleared.lines_are);
        equations = every_all_added (IsEquationBelow n) r.cleared [] (weaker r.cleared cleared.equations) tt;
      })
    where
      weaker : (es : List Equation) → AreEquationsBelow n es → AllByRecursion (λ (e : Equation). e.poly ≢ [] → IsEquationBelow n e) es
      weaker [] a = tt
      weaker (e ∷ es) a = (λ z. a.0, weaker es a.1)

  pub branch_below : (c : CaseState) (s : List Term) (zero : Bool) (tail : Option ℕ) (d : CaseState) → IsPolyBelow n s → IsCaseBelow c → IsBranch c s zero tail d → IsCaseBelow d
  branch_below c s true None d i h r = zero_below c s d i h r
  branch_below c s true (Some k) d i h r = loss_below c s k d i h r
  branch_below c s false tail d i h r = nonzero_below c s d i h r
