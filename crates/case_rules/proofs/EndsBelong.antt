-- What the ends of a case that belongs to a root are: branches that belong, refutations and leaves that check.
use Rattle.std.specs.Prelude.{◌≡◌, ◌≢◌, ℕ, zero, suc, ◌+◌, ◌<◌, ◌≤◌, ◌⊎◌, Bool, true, false, List, [], ◌∷◌, ◌++◌, length, slice_index_or, Contains, refl}
use mathlib.Core.Logic.{inl, inr}
use Rattle.std.proofs.Common.{arith, subst, sym, ◌∙◌, ap}
use Rattle.std.proofs.lemmas.Bool.{cases_order}
use Rattle.std.proofs.lemmas.Int.{ints}
use Rattle.std.specs.Cmp.{tied_itself}
use Rattle.std.specs.List.{AllByRecursion}
use Rattle.std.specs.List.Sorted.{IsStrictlySortedBy}
use Rattle.std.specs.declared.cmp.Ordering.TheVariants.{Less}
use Rattle.std.specs.declared.option.Option.{Option}
use Rattle.std.specs.declared.option.Option.TheVariants.{None, Some}
use Rattle.sparse_poly.specs.declared.Term.{Term}
use Rattle.sparse_poly.specs.Order.{poly_cmp}
use Rattle.sparse_poly.specs.OrderLaws.{poly_cmp-IsTotalOrder}
use Rattle.sparse_poly.specs.Contributions.{IsPoly}
use Rattle.sparse_poly.specs.Primitive.{IsPrimitive}
use Rattle.sparse_poly.specs.Reads.{main_variable}
use Rattle.sparse_poly.proofs.InForm.{one_size}
use Rattle.pseudo_rem.specs.declared.remainders.Step.{Step}
use Rattle.pseudo_rem.specs.Steps.{step_contributions, tail_contributions}
use Rattle.pseudo_rem.specs.Remainders.{rest_of}
use Rattle.char_set.specs.Triangular.{IsDecided, IsTriangular}
use Rattle.derive_lines.specs.declared.parts.Decision.{Decision}
use Rattle.derive_lines.specs.declared.parts.Item.{Item}
use Rattle.derive_lines.specs.declared.parts.Item.TheVariants as item
use Rattle.derive_lines.specs.declared.parts.Line.{Line}
use Rattle.derive_lines.specs.Lines.{item_poly, operand}
use Rattle.derive_lines.specs.Refuting.{decided, Refutes}
use Rattle.refute_store.specs.Live.{IsWithin}
use Rattle.refute_cert.specs.Parts.{RefutationParts}
use Rattle.refute_cert.specs.Cone.{IsCone, HavePolyMultipliers}
use Rattle.leaf_cert.specs.declared.ends.LeafEnd.{LeafEnd}
use Rattle.leaf_cert.specs.declared.ends.LeafEnd.TheVariants as leaf_end
use Rattle.leaf_cert.specs.declared.ends.OpenCause.{OpenCause}
use Rattle.leaf_cert.specs.declared.ends.OpenCause.TheVariants as cause
use Rattle.leaf_cert.specs.declared.ends.Stop.{Stop}
use Rattle.leaf_cert.specs.declared.ends.StepKind.TheVariants as kind
use Rattle.leaf_cert.specs.Leaves.{IsTooHigh, IsTooHeavy, IsStoppedStep, EndChecks, GoodLeaf}
use Rattle.case_rules.specs.declared.equation.Equation.{Equation}
use Rattle.case_rules.specs.declared.moves.Move.TheVariants.{Reduce, Split}
use Rattle.case_rules.specs.declared.outcome.Outcome.TheVariants as outcome
use Rattle.case_rules.specs.Cases.{CaseState, known, equation, equation_at, poly, polys, polys_of, count}
use Rattle.case_rules.specs.Branches.{IsReduced, IsBranch, CanReduce, CanSplit}
use Rattle.case_rules.specs.Rules.{IsDeadAt, IsAlive, IsMove, IsSettled, HasZeroRemainder, condition}
use Rattle.case_rules.specs.Ends as ends
use Rattle.case_rules.specs.Ends.{End, leaf_of, last_line, back_lines, IsStoppedBy, IsReductionStopped, IsTailStopped, IsRefutation, IsEnd}
use Rattle.case_rules.specs.Belonging.{IsCondition, Belongs, IsRootList}
use Rattle.case_rules.specs.EndLaws.{AreBranches, RefutesCase, IsLeafOf, AreEndLaws}
use Rattle.case_rules.proofs.AddedEquations.{Ascend, stands_at, stands_contains}
use Rattle.case_rules.proofs.BackLines.{LeadBack, lead_back}
use Rattle.case_rules.proofs.Belonging.{regular, root_belongs, condition_of, reduced_belongs, nonzero_belongs, zero_belongs, tail_belongs}
use Rattle.case_rules.proofs.CanMoves.{IsWhole, can_move}
use Rattle.case_rules.proofs.Holding.{decisions_of}
use Rattle.case_rules.proofs.OneEnd.{OneRemainder, OneCone, one_end}
use Rattle.case_rules.proofs.Regular.{polys_at, polys_length, settled_variables}

-- what a case may be split by is primitive and not zero
pub split_whole : (c : CaseState) (s : List Term) (tail : Option ℕ) → IsPoly s → CanSplit c s tail → IsWhole s
split_whole c s None h can = record {
  poly = h;
  primitive = subst IsPrimitive (sym can.1) (omega (arith, ints), λ d a. one_size d a.0);
  nonzero = λ z. cc (sym z ∙ can.1);
}
split_whole c s (Some i) h can = record { poly = h; primitive = can.in_form.primitive; nonzero = λ z. can.in_form.varied (ap main_variable z) }

module _ (root : List (List Term)) where
  -- a branch belongs
  pub branch_belongs : (c : CaseState) (s : List Term) (way : Bool) (tail : Option ℕ) (d : CaseState) → CanSplit c s tail → IsWhole s → IsBranch c s way tail d → Belongs root c → Belongs root d
  branch_belongs c s true None d can w r b = zero_belongs root c s d w.poly w.primitive w.nonzero r b
  branch_belongs c s true (Some i) d can w r b = tail_belongs root c s i d can.place w.poly w.primitive w.nonzero r b
  branch_belongs c s false tail d can w r b = nonzero_belongs root c s d (condition_of root c s tail can) r b

  moves_of : (c : CaseState) (s : List Term) (way : Bool) (tail : Option ℕ) (d : CaseState) → IsBranch c s way tail d → d.moves ≡ c.moves + 1
  moves_of c s true None d b = ap (λ (c : CaseState). c.moves) b
  moves_of c s true (Some i) d b = ap (λ (c : CaseState). c.moves) b.is
  moves_of c s false tail d b = ap (λ (c : CaseState). c.moves) b.is

  -- a branch of a case: it belongs, has the decisions of the case and this one, and no more moves than the budget
  record IsBranchOf (budget : ℕ) (c : CaseState) (s : List Term) (way : Bool) (d : CaseState) : Type 0 where
    decisions_are : d.decisions ≡ decided c.decisions s way
    belongs : Belongs root d
    within : d.moves ≤ budget

  split_branch : (budget : ℕ) (c : CaseState) (s : List Term) (way : Bool) (tail : Option ℕ) (d : CaseState) → Belongs root c → IsMove c (Split s tail) → c.moves < budget → IsBranch c s way tail d → IsBranchOf budget c s way d
  split_branch budget c s way tail d b m l r =
      let can = can_move root c b (Split s tail) m in
      let n = moves_of c s way tail d r in
      record { decisions_are = decisions_of c s way tail d r; belongs = branch_belongs c s way tail d can.0 can.1 r b; within = omega (arith, n, l) }

  -- the least equation that is a contradiction refutes
  pub dead_refutes : (c : CaseState) (i : ℕ) → Belongs root c → IsDeadAt c i → Refutes root c.decisions c.lines (equation c i).item
  dead_refutes c i b d = record { lines = b.lines; ends = record { poly = poly c i; is = b.items i d.place; contradiction = d.contradiction } }

  contains_place : (ns : List (List Term)) (k : ℕ) → k < length ns → Contains ns (slice_index_or ns k [])
  contains_place [] k l = absurd (omega (arith, l))
  contains_place (n ∷ ns) zero l = (0, omega arith, refl)
  contains_place (n ∷ ns) (suc k) l = let h = contains_place ns k (omega (arith, l)) in (suc h.0, omega (arith, h.1), h.2)

  last_item : (k n last : ℕ) → last + 1 ≡ k + n → (last_line k n ≡ Some (item.Line last)) ⊎ (n ≡ 0)
  last_item k zero last e = inr refl
  last_item k (suc n) last e = inl (ap (λ m. Some (item.Line m)) (omega (arith, e)))

  -- a condition whose remainder is zero refutes, by the lines that lead back
  pub record IsRefutedBy (c : CaseState) (ss : List Step) (k last : ℕ) : Type 0 where
    pub refutes : Refutes root c.decisions (c.lines ++ back_lines c (length c.lines) (condition c k) ss) (item.Line last)
    pub multipliers : HavePolyMultipliers (c.lines ++ back_lines c (length c.lines) (condition c k) ss)

  pub refuted_by : (c : CaseState) (k last : ℕ) (ss : List Step) → Belongs root c → IsSettled c → k < length (known c) → HasZeroRemainder c (condition c k) ss → last + 1 ≡ length c.lines + length ss → condition c k ≢ [] → IsRefutedBy c ss k last
  refuted_by c k last ss b settled l h e some =
      let back : LeadBack root c b settled (condition c k) ss = lead_back root c b settled (condition c k) ss h.each h.zero in
      record {
        refutes = record {
          lines = λ j line is. (back.fine j line is).good;
          ends = record { poly = condition c k; is = by ss back (last_item (length c.lines) (length ss) last e) h.zero; contradiction = inr (contains_place (known c) k l) };
        };
        multipliers = λ j line is. (back.fine j line is).multiplier;
      }
    where
      by : (ss : List Step) → LeadBack root c b settled (condition c k) ss → (last_line (length c.lines) (length ss) ≡ Some (item.Line last)) ⊎ (length ss ≡ 0) → rest_of (condition c k) ss ≡ [] → item_poly root c.decisions (c.lines ++ back_lines c (length c.lines) (condition c k) ss) (item.Line last) ≡ Some (condition c k)
      by ss back (inl g) z = ap (operand root c.decisions (c.lines ++ back_lines c (length c.lines) (condition c k) ss)) (sym g) ∙ back.made
      by [] back (inr g) z = absurd (some z)
      by (s ∷ ss) back (inr g) z = cc g

  -- a known condition is not zero
  pub condition_some : (c : CaseState) (k : ℕ) → Belongs root c → k < length (known c) → condition c k ≢ []
  condition_some c k b l z = by (b.conditions k [] l)
    where
      by : IsCondition (condition c k) → ⊥
      by (inl x) = cc (sym z ∙ x.1)
      by (inr x) = x.varied (ap main_variable z)

  -- equations at different places differ
  above_at : (p : List Term) (es : List Equation) (j : ℕ) → j < length es → AllByRecursion (λ (q : List Term). poly_cmp p q ≡ Less) (polys_of es) → poly_cmp p (equation_at es j).poly ≡ Less
  above_at p [] j l h = absurd (omega (arith, l))
  above_at p (e ∷ es) zero l h = h.0
  above_at p (e ∷ es) (suc j) l h = above_at p es j (omega (arith, l)) h.1

  pub below_at : (es : List Equation) (i j : ℕ) → Ascend es → i < j → j < length es → poly_cmp (equation_at es i).poly (equation_at es j).poly ≡ Less
  unfolding IsStrictlySortedBy
  below_at [] i j a k l = absurd (omega (arith, l))
  below_at (e ∷ es) zero zero a k l = absurd (omega (arith, k))
  below_at (e ∷ es) zero (suc j) a k l = above_at e.poly es j (omega (arith, l)) a.0
  below_at (e ∷ es) (suc i) zero a k l = absurd (omega (arith, k))
  below_at (e ∷ es) (suc i) (suc j) a k l = below_at es i j a.1 (omega (arith, k)) (omega (arith, l))

  not_less : (p q : List Term) → poly_cmp p q ≡ Less → p ≢ q
  not_less p q h e = cc (sym h ∙ ap (poly_cmp p) (sym e) ∙ tied_itself poly_cmp-IsTotalOrder p)

  differ : (c : CaseState) (q p : ℕ) → Belongs root c → q < count c → p < count c → q ≢ p → poly c q ≢ poly c p
  differ c q p b k l n = by (cases_order q p)
    where
      by : (q ≡ p) ⊎ ((q < p) ⊎ (p < q)) → poly c q ≢ poly c p
      by (inl e) = absurd (n e)
      by (inr (inl x)) = not_less (poly c q) (poly c p) (below_at c.equations q p b.ascending.ascending x l)
      by (inr (inr x)) = λ e. not_less (poly c p) (poly c q) (below_at c.equations p q b.ascending.ascending x k) (sym e)

  contains_equation : (c : CaseState) (i : ℕ) → i < count c → Contains (polys c) (poly c i)
  contains_equation c i l = stands_contains (poly c i) c.equations (stands_at c.equations i l)

  -- a leaf with this end is good, where the end checks
  pub good_leaf : (c : CaseState) (end : LeafEnd) → Belongs root c → EndChecks (polys c) (known c) end → GoodLeaf root (leaf_of c end)
  good_leaf c end b h = record {
    lines = b.lines;
    equations = record {
      items = λ i d l.
          let k : i < count c = omega (arith, l, polys_length c.equations) in
          record { item = (equation c i).item; is = b.items i k ∙ ap Some (sym (polys_at c.equations i d k)) };
      ascending = b.ascending.ascending;
    };
    recovered = b.recovered;
    end = h;
  }

  pub triangular_checks : (c : CaseState) → Belongs root c → IsAlive c → IsSettled c → IsTriangular (polys c) (known c)
  triangular_checks c b a s = record {
    main = settled_variables c (regular root c b) a s;
    decided = λ i d l.
        let k : i < count c = omega (arith, l, polys_length c.equations) in
        subst (IsDecided (known c)) (sym (polys_at c.equations i d k)) (s.decided i k);
  }

  stopped_checks : (c : CaseState) (cs : List Term) (stop : Stop) (why : OpenCause) → ((P : List Term → Type 0) → P cs → IsStoppedStep (polys c) (known c) stop.step stop.v stop.q stop.p P) → IsStoppedBy cs stop why → EndChecks (polys c) (known c) (leaf_end.Open why)
  stopped_checks c cs stop cause.Budget f h = absurd h
  stopped_checks c cs stop (cause.Coefficient s) f h = subst (λ (s : Stop). IsStoppedStep (polys c) (known c) s.step s.v s.q s.p IsTooHeavy) (sym h.0) (f IsTooHeavy h.1)
  stopped_checks c cs stop (cause.Degree s) f h = subst (λ (s : Stop). IsStoppedStep (polys c) (known c) s.step s.v s.q s.p IsTooHigh) (sym h.0) (f IsTooHigh h.1)

  pub reduction_checks : (c : CaseState) (q p v : ℕ) (why : OpenCause) → Belongs root c → CanReduce c q p v → IsReductionStopped c q p v why → EndChecks (polys c) (known c) (leaf_end.Open why)
  reduction_checks c q p v why b can h =
      stopped_checks c (step_contributions v (poly c q) (poly c p)) (record { step = kind.Reduce; v = v; q = poly c q; p = poly c p }) why
      (λ P x. record { reducible = record { reduced = contains_equation c q can.q_place; by = contains_equation c p can.p_place; apart = differ c q p b can.q_place can.p_place can.apart; can = can.can }; stopped = x }) h

  pub tail_checks : (c : CaseState) (s : List Term) (i : ℕ) (why : OpenCause) → i < count c → IsTailStopped c s i why → EndChecks (polys c) (known c) (leaf_end.Open why)
  tail_checks c s i why l h =
      stopped_checks c (tail_contributions h.v (poly c i) h.u s) (record { step = kind.Tail; v = h.v; q = poly c i; p = s }) why
      (λ P x. record { reduced = contains_equation c i l; factor = h.u; tail = record { main = h.initial.main; divided = inr h.initial.cleared }; stopped = x }) h.stopped

  -- what is known of cones: that of a refutation is one, and its pattern is within the decisions
  pub record AreGoodCones : Type 0 where
    pub good : (ds : List Decision) (ls : List Line) (end : Item) (r : RefutationParts) → HavePolyMultipliers ls → Refutes root ds ls end → IsCone root ds ls end r → Refutes root r.pattern r.lines r.end
    pub within : (ds : List Decision) (ls : List Line) (end : Item) (r : RefutationParts) → IsCone root ds ls end r → IsWithin r.pattern ds

  -- what an end says
  abbrev pub EndSays : ℕ → CaseState → End → Type 0
  EndSays budget c (outcome.Split by z n) = AreBranches root budget c by z n
  EndSays budget c (outcome.Dead r) = RefutesCase root c r
  EndSays budget c (outcome.Leaf l) = IsLeafOf root c l

  says_after : (budget : ℕ) (c : CaseState) (q p v : ℕ) (d : CaseState) (o : End) → IsReduced c q p v d → EndSays budget d o → EndSays budget c o
  says_after budget c q p v d (outcome.Split by z n) r h =
      let same : d.decisions ≡ c.decisions = ap (λ (c : CaseState). c.decisions) r.is in
      record {
        zero_decisions = h.zero_decisions ∙ ap (λ ds. decided ds by true) same;
        nonzero_decisions = h.nonzero_decisions ∙ ap (λ ds. decided ds by false) same;
        zero_belongs = h.zero_belongs;
        nonzero_belongs = h.nonzero_belongs;
        zero_moves = h.zero_moves;
        nonzero_moves = h.nonzero_moves;
      }
  says_after budget c q p v d (outcome.Dead s) r h = record { refutes = h.refutes; within = subst (IsWithin s.pattern) (ap (λ (c : CaseState). c.decisions) r.is) h.within }
  says_after budget c q p v d (outcome.Leaf l) r h = record { good = h.good; same = h.same ∙ ap (λ (c : CaseState). c.decisions) r.is }

  module _ (cones : AreGoodCones) (budget : ℕ) where
    cone_says : (c : CaseState) (ls : List Line) (end : Item) (r : RefutationParts) → HavePolyMultipliers ls → Refutes root c.decisions ls end → IsCone root c.decisions ls end r → RefutesCase root c r
    cone_says c ls end r m h k = record { refutes = cones.good c.decisions ls end r m h k; within = cones.within c.decisions ls end r k }

    refuted_says : (c : CaseState) (k : ℕ) (r : RefutationParts) → Belongs root c → IsSettled c → k < length (known c) → IsRefutation root c k r → RefutesCase root c r
    refuted_says c k r b s l h =
        let x = refuted_by c k h.last h.steps b s l h.remainder h.last_is (condition_some c k b l) in
        cone_says c (c.lines ++ back_lines c (length c.lines) (condition c k) h.steps) (item.Line h.last) r x.multipliers x.refutes h.cone

    leaf_says : (c : CaseState) (end : LeafEnd) → Belongs root c → EndChecks (polys c) (known c) end → IsLeafOf root c (leaf_of c end)
    leaf_says c end b h = record { good = good_leaf c end b h; same = refl }

    pub end_says : (c : CaseState) (o : End) → Belongs root c → IsEnd root budget c o → EndSays budget c o
    end_says c o b (ends.IsEnd.dead c' i r l k) = cone_says c c.lines (equation c i).item r b.multipliers (dead_refutes c i b l.has) k
    end_says c o b (ends.IsEnd.spent c' m a u w) = leaf_says c (leaf_end.Open cause.Budget) b tt
    end_says c o b (ends.IsEnd.reduced c' q p v d o' a u w s t) = says_after budget c q p v d o s (end_says d o (reduced_belongs root c q p v d (can_move root c b (Reduce q p v) u).0 s b) t)
    end_says c o b (ends.IsEnd.reduction_stopped c' q p v y a u w s) = leaf_says c (leaf_end.Open y) b (reduction_checks c q p v y b (can_move root c b (Reduce q p v) u).0 s)
    end_says c o b (ends.IsEnd.split c' s g z n a u w x y) =
        let zero = split_branch budget c s true g z b u w x in
        let nonzero = split_branch budget c s false g n b u w y in
        record { zero_decisions = zero.decisions_are; nonzero_decisions = nonzero.decisions_are; zero_belongs = zero.belongs; nonzero_belongs = nonzero.belongs; zero_moves = zero.within; nonzero_moves = nonzero.within }
    end_says c o b (ends.IsEnd.tail_stopped c' s i y a u w x) = leaf_says c (leaf_end.Open y) b (tail_checks c s i y (can_move root c b (Split s (Some i)) u).0.place x)
    end_says c o b (ends.IsEnd.refuted c' k r a h l s) = refuted_says c k r b h l.has.place s
    end_says c o b (ends.IsEnd.triangular c' a h e) = leaf_says c leaf_end.Triangular b (triangular_checks c b a h)

-- the laws of ends
pub end_laws : ((root : List (List Term)) → AreGoodCones root) → OneRemainder → OneCone → (root : List (List Term)) (budget : ℕ) → IsRootList root → AreEndLaws root budget
end_laws cones remainder cone root budget h = record {
  top = root_belongs root h;
  one = λ c o p b x y. one_end remainder cone root budget c o p (regular root c b) x y;
  split = λ c by z n b m x. end_says root (cones root) budget c (outcome.Split by z n) b x;
  dead = λ c r b m x. end_says root (cones root) budget c (outcome.Dead r) b x;
  leaf = λ c l b m x. end_says root (cones root) budget c (outcome.Leaf l) b x;
}
