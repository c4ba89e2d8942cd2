-- The end of a case with its variables below n has its variables below n.
use Rattle.std.specs.Prelude.{◌<◌, ℕ, zero, suc, Bool, true, false, if◌then◌else◌, List, [], ◌∷◌, ◌++◌, length, slice_index_or}
use Rattle.std.proofs.Common.{subst, sym}
use Rattle.std.proofs.lemmas.List.Elements.{All-from_recursion}
use Rattle.std.specs.List.{AllByRecursion}
use Rattle.std.specs.declared.option.Option.TheVariants.{Some}
use Rattle.sparse_poly.specs.declared.Term.{Term}
use Rattle.sparse_poly.proofs.Descending.{all_both, all_more}
use Rattle.pseudo_rem.specs.declared.remainders.Step.{Step}
use Rattle.pseudo_rem.specs.Steps.{step_contributions, tail_contributions}
use Rattle.pseudo_rem.specs.Remainders.{AreNextSteps}
use Rattle.derive_lines.specs.declared.parts.Decision.{Decision}
use Rattle.derive_lines.specs.declared.parts.Item.TheVariants as item
use Rattle.derive_lines.specs.declared.parts.Line.{Line}
use Rattle.derive_lines.specs.declared.parts.Way.TheVariants.{Back}
use Rattle.derive_lines.specs.Lines.{conditions}
use Rattle.refute_cert.specs.Parts.{RefutationParts}
use Rattle.leaf_cert.specs.declared.ends.LeafEnd.{LeafEnd}
use Rattle.leaf_cert.specs.declared.ends.LeafEnd.TheVariants as leaf_end
use Rattle.leaf_cert.specs.declared.ends.OpenCause.{OpenCause}
use Rattle.leaf_cert.specs.declared.ends.OpenCause.TheVariants as cause
use Rattle.leaf_cert.specs.declared.ends.Stop.{Stop}
use Rattle.leaf_cert.specs.declared.ends.StepKind.TheVariants as kind
use Rattle.case_rules.specs.declared.equation.Equation.{Equation}
use Rattle.case_rules.specs.declared.moves.Move.TheVariants.{Reduce}
use Rattle.case_rules.specs.declared.outcome.Outcome.TheVariants as outcome
use Rattle.case_rules.specs.Cases.{CaseState, known, equation, poly, polys, polys_of}
use Rattle.case_rules.specs.Rules.{condition}
use Rattle.case_rules.specs.Ends as ends
use Rattle.case_rules.specs.Ends.{End, leaf_of, last_line, back_lines, IsStoppedBy, IsReductionStopped, IsTailStopped, IsRefutation, IsEnd}
use Rattle.case_rules.specs.Belonging.{Belongs}
use Rattle.case_rules.proofs.Belonging.{reduced_belongs}
use Rattle.case_rules.proofs.CanMoves.{can_move}
use Rattle.sparse_poly.specs.Reads.{HasVariablesBelow}
use Rattle.leaf_cert.specs.Variables.{HasDecisionVariablesBelow, HasLineVariablesBelow, HasStopVariablesBelow, HasCauseVariablesBelow, HasEndVariablesBelow, HaveDerivationVariablesBelow, HaveLeafVariablesBelow}
use Rattle.legal_ranges.proofs.ReadParts.{main_below}
use Rattle.legal_ranges.proofs.Steps.{IsStepBelow, reduction_below}
use Rattle.legal_ranges.proofs.Clearings.{AreLinesBelow, AreEquationsBelow}
use Rattle.legal_ranges.proofs.Cases.{AreDecisionsBelow, IsCaseBelow, poly_at, main_at, reduced_below, branch_below}
use Rattle.legal_ranges.proofs.DueMoves.{reduction_variable, split_below}
use Rattle.legal_ranges.proofs.Cones.{each_at, cone_below}

-- what holds of each element and of the other value holds at each place
or_other : {X : Type 0} (P : X → Type 0) (xs : List X) (k : ℕ) (x : X) → P x → AllByRecursion P xs → P (slice_index_or xs k x)
or_other P [] k x p h = p
or_other P (y ∷ ys) zero x p h = h.0
or_other P (y ∷ ys) (suc k) x p h = or_other P ys k x p h.1

module _ (n : ℕ) where
  polys_below : (es : List Equation) → AreEquationsBelow n es → AllByRecursion (HasVariablesBelow n) (polys_of es)
  polys_below [] h = tt
  polys_below (e ∷ es) h = (h.0.below, polys_below es h.1)

  conditions_below : (ds : List Decision) → AreDecisionsBelow n ds → AllByRecursion (HasVariablesBelow n) (conditions ds)
  conditions_below [] h = tt
  conditions_below (d ∷ ds) h = each d.zero (conditions_below ds h.1)
    where
      each : (b : Bool) → AllByRecursion (HasVariablesBelow n) (conditions ds) → AllByRecursion (HasVariablesBelow n) (if b then conditions ds else d.poly ∷ conditions ds)
      each true i = i
      each false i = (h.0, i)

  module _ (c : CaseState) (below : IsCaseBelow n c) where
    condition_below : (k : ℕ) → HasVariablesBelow n (condition c k)
    condition_below k = or_other (HasVariablesBelow n) (known c) k [] tt (conditions_below c.decisions below.decisions)

    -- the lines that lead back from a remainder
    back_below : (k : ℕ) (p : List Term) (steps : List Step) → HasVariablesBelow n p → AreNextSteps (known c) (polys c) p steps → AreLinesBelow n (back_lines c k p steps)
    back_below k p [] h a = tt
    back_below k p (s ∷ ss) h a =
        all_more (HasLineVariablesBelow n) (back_lines c k s.reduction.r ss) (record { way = Back; from = last_line k (length ss); by = Some (equation c s.by).item; l = s.reduction.l; a = s.reduction.a; m = s.reduction.m; made = p })
        (back_below k s.reduction.r ss step.r.below a.1)
        (record { l = step.l; a = step.a; m = step.m; made = h })
      where
        member : HasVariablesBelow n a.0.poly
        member = each_at (HasVariablesBelow n) (polys c) s.by a.0.poly (polys_below c.equations below.equations) a.0.next.member

        step : IsStepBelow n s.reduction
        step = reduction_below n (known c) p a.0.poly a.0.var s.reduction (main_below n a.0.var a.0.poly a.0.next.due.main member) h member a.0.reduction

    refutation_below : (root : List (List Term)) (k : ℕ) (r : RefutationParts) → IsRefutation root c k r → HaveDerivationVariablesBelow n r.pattern r.lines
    refutation_below root k r f =
        let back : List Line = back_lines c (length c.lines) (condition c k) f.steps in
        cone_below n root c.decisions (c.lines ++ back) (item.Line f.last) r below.decisions
        (all_both (HasLineVariablesBelow n) c.lines back below.lines (back_below (length c.lines) (condition c k) f.steps (condition_below k) f.remainder.each))
        f.cone

    -- a case as a leaf
    leaf_below : (end : LeafEnd) → HasEndVariablesBelow n end → HaveLeafVariablesBelow n c.decisions c.lines (polys c) end
    leaf_below end h = record {
      derivation = record { decisions = All-from_recursion (HasDecisionVariablesBelow n) c.decisions below.decisions; lines = All-from_recursion (HasLineVariablesBelow n) c.lines below.lines };
      equations = All-from_recursion (HasVariablesBelow n) (polys c) (polys_below c.equations below.equations);
      end = h;
    }

    stopped_below : (cs : List Term) (stop : Stop) (why : OpenCause) → HasStopVariablesBelow n stop → IsStoppedBy cs stop why → HasCauseVariablesBelow n why
    stopped_below cs stop cause.Budget h s = absurd s
    stopped_below cs stop (cause.Coefficient t) h s = subst (HasStopVariablesBelow n) (sym s.0) h
    stopped_below cs stop (cause.Degree t) h s = subst (HasStopVariablesBelow n) (sym s.0) h

    reduction_stop : (q p v : ℕ) (why : OpenCause) → v < n → IsReductionStopped c q p v why → HasCauseVariablesBelow n why
    reduction_stop q p v why l s =
        stopped_below (step_contributions v (poly c q) (poly c p)) (record { step = kind.Reduce; v = v; q = poly c q; p = poly c p }) why
        (record { v = l; q = (poly_at n c q below).below; p = (poly_at n c p below).below }) s

    tail_stop : (s : List Term) (i : ℕ) (why : OpenCause) → HasVariablesBelow n s → IsTailStopped c s i why → HasCauseVariablesBelow n why
    tail_stop s i why h t =
        stopped_below (tail_contributions t.v (poly c i) t.u s) (record { step = kind.Tail; v = t.v; q = poly c i; p = s }) why
        (record { v = main_at n c i t.v t.u s below t.initial; q = (poly_at n c i below).below; p = h }) t.stopped

  -- an end with its variables below n
  abbrev pub IsEndBelow : End → Type 0
  IsEndBelow (outcome.Split by z x) = HasVariablesBelow n by × IsCaseBelow n z × IsCaseBelow n x
  IsEndBelow (outcome.Dead r) = HaveDerivationVariablesBelow n r.pattern r.lines
  IsEndBelow (outcome.Leaf l) = HaveLeafVariablesBelow n l.decisions l.lines l.equations l.end

  pub end_below : (root : List (List Term)) (budget : ℕ) (c : CaseState) (o : End) → Belongs root c → IsCaseBelow n c → IsEnd root budget c o → IsEndBelow o
  end_below root budget c o b h (ends.IsEnd.dead c' i r l k) = cone_below n root c.decisions c.lines (equation c i).item r h.decisions h.lines k
  end_below root budget c o b h (ends.IsEnd.spent c' m a u w) = leaf_below c h (leaf_end.Open cause.Budget) tt
  end_below root budget c o b h (ends.IsEnd.reduced c' q p v d o' a u w s t) =
      end_below root budget d o (reduced_belongs root c q p v d (can_move root c b (Reduce q p v) u).0 s b) (reduced_below n c q p v d (reduction_variable n c h root b q p v u) h s) t
  end_below root budget c o b h (ends.IsEnd.reduction_stopped c' q p v y a u w s) =
      leaf_below c h (leaf_end.Open y) (reduction_stop c h q p v y (reduction_variable n c h root b q p v u) s)
  end_below root budget c o b h (ends.IsEnd.split c' by tail z x a u w f g) =
      let p = split_below n c h root b by tail u in
      (p.below, branch_below n c by true tail z p h f, branch_below n c by false tail x p h g)
  end_below root budget c o b h (ends.IsEnd.tail_stopped c' by i y a u w s) =
      leaf_below c h (leaf_end.Open y) (tail_stop c h by i y (split_below n c h root b by (Some i) u).below s)
  end_below root budget c o b h (ends.IsEnd.refuted c' k r a s l f) = refutation_below c h root k r f
  end_below root budget c o b h (ends.IsEnd.triangular c' a s e) = leaf_below c h leaf_end.Triangular tt
