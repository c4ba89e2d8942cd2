-- A case and a budget have one end.
use Rattle.std.specs.Prelude.{◌≡◌, ℕ, pos, true, false, List, [], ◌++◌, length, refl}
use Rattle.std.proofs.Common.{arith, subst, sym, ◌∙◌, ap}
use Rattle.std.specs.declared.option.Option.{Option}
use Rattle.std.specs.declared.option.Option.TheVariants.{Some}
use Rattle.sparse_poly.specs.declared.Term.{Term}
use Rattle.sparse_poly.specs.Polynomials.{constant}
use Rattle.sparse_poly.specs.Contributions.{contributions, IsResult}
use Rattle.sparse_poly.specs.Reads.{leading_in, HaveMainVariables}
use Rattle.pseudo_rem.specs.declared.remainders.Step.{Step}
use Rattle.pseudo_rem.specs.Steps.{CanReduce, step_contributions, tail_contributions}
use Rattle.pseudo_rem.specs.Remainders.{AreSteps}
use Rattle.derive_lines.specs.declared.parts.Decision.{Decision}
use Rattle.derive_lines.specs.declared.parts.Item.{Item}
use Rattle.derive_lines.specs.declared.parts.Item.TheVariants as item
use Rattle.derive_lines.specs.declared.parts.Line.{Line}
use Rattle.refute_cert.specs.Parts.{RefutationParts}
use Rattle.refute_cert.specs.Cone.{IsCone}
use Rattle.leaf_cert.specs.declared.ends.LeafEnd.TheVariants as leaf_end
use Rattle.leaf_cert.specs.declared.ends.OpenCause.{OpenCause}
use Rattle.leaf_cert.specs.declared.ends.OpenCause.TheVariants as cause
use Rattle.leaf_cert.specs.declared.ends.Stop.{Stop}
use Rattle.leaf_cert.specs.declared.ends.StepKind.TheVariants as kind
use Rattle.case_rules.specs.declared.moves.Move.{Move}
use Rattle.case_rules.specs.declared.moves.Move.TheVariants.{Reduce, Split}
use Rattle.case_rules.specs.declared.outcome.Outcome.TheVariants as outcome
use Rattle.case_rules.specs.Cases.{CaseState, known, equation, poly, polys}
use Rattle.case_rules.specs.Branches.{IsReduced, IsTailBranch, IsBranch}
use Rattle.case_rules.specs.Rules.{IsLeast, IsDeadAt, IsAlive, IsRefutedAt, IsMove, IsSettled, HasZeroRemainder, condition, linear, factor, pair_reduction, pair_split, initial_split}
use Rattle.case_rules.specs.Ends as ends
use Rattle.case_rules.specs.Ends.{End, leaf_of, back_lines, IsStoppedBy, IsReductionStopped, IsTailStopped, IsRefutation, IsEnd}
use Rattle.case_rules.proofs.OneMove.{one_least, one_move, one_initial, ArePolys}
use Rattle.case_rules.proofs.OneBranch.{one_reduced, one_branch}
use Rattle.case_rules.proofs.Regular.{IsRegular, regular_polys, regular_each, regular_reduced, settled_variables}

-- where a move is due the case is not settled
pub unsettled : (c : CaseState) (m : Move) → IsMove c m → IsSettled c → ⊥
unsettled c m (linear q p v a) s = s.linear p a.least.has
unsettled c m (factor b t l a) s = s.factor a.at a.least.has
unsettled c m (pair_reduction q p v l f a) s = s.pair v a.highest.has
unsettled c m (pair_split b t l f a) s = s.pair a.v a.highest.has
unsettled c m (initial_split b t l f h a) s = a.least.has.undecided (s.decided a.at a.least.has.place)

reduce_parts : (q p v q' p' v' : ℕ) → Reduce q p v ≡ Reduce q' p' v' → (q ≡ q') × (p ≡ p') × (v ≡ v')
reduce_parts q p v q' p' v' e = (cc e, cc e, cc e)

split_parts : (s s' : List Term) (t t' : Option ℕ) → Split s t ≡ Split s' t' → (s ≡ s') × (t ≡ t')
split_parts s s' t t' e = (cc e, cc e)

no_split : (q p v : ℕ) (s : List Term) (t : Option ℕ) → Reduce q p v ≡ Split s t → ⊥
no_split q p v s t e = cc e

-- contributions that are added up are not stopped
not_stopped : (cs p : List Term) (stop : Stop) (why : OpenCause) → IsResult cs p → IsStoppedBy cs stop why → ⊥
not_stopped cs p stop cause.Budget r h = h
not_stopped cs p stop (cause.Coefficient s) r h = let l = r.light h.1.heavy.monomial in let k = h.1.heavy.heavy in absurd (omega (arith, l, k))
not_stopped cs p stop (cause.Degree s) r h = h.1 r.degree

one_cause : (cs : List Term) (stop : Stop) (why other : OpenCause) → IsStoppedBy cs stop why → IsStoppedBy cs stop other → why ≡ other
one_cause cs stop cause.Budget other h k = absurd h
one_cause cs stop (cause.Coefficient s) cause.Budget h k = absurd k
one_cause cs stop (cause.Degree s) cause.Budget h k = absurd k
one_cause cs stop (cause.Coefficient s) (cause.Coefficient t) h k = ap (λ x. let y : OpenCause = cause.Coefficient x in y) (h.0 ∙ sym k.0)
one_cause cs stop (cause.Coefficient s) (cause.Degree t) h k = absurd (k.1 h.1.degree)
one_cause cs stop (cause.Degree s) (cause.Coefficient t) h k = absurd (h.1 k.1.degree)
one_cause cs stop (cause.Degree s) (cause.Degree t) h k = ap (λ x. let y : OpenCause = cause.Degree x in y) (h.0 ∙ sym k.0)

reduced_or_stopped : (c : CaseState) (q p v : ℕ) (d : CaseState) (why : OpenCause) → IsReduced c q p v d → IsReductionStopped c q p v why → ⊥
reduced_or_stopped c q p v d why r s = not_stopped (step_contributions v (poly c q) (poly c p)) r.reduction.is_step.combined (record { step = kind.Reduce; v = v; q = poly c q; p = poly c p }) why made s
  where
    made : IsResult (step_contributions v (poly c q) (poly c p)) r.reduction.is_step.combined
    made = subst (λ x. IsResult (contributions (leading_in v (poly c p)) (poly c q) x (poly c p)) r.reduction.is_step.combined) r.reduction.a_is (subst (λ x. IsResult (contributions x (poly c q) r.step.a (poly c p)) r.reduction.is_step.combined) r.reduction.l_is r.reduction.is_step.result)

branched_or_stopped : (c : CaseState) → ArePolys c → (s : List Term) (i : ℕ) (d : CaseState) (why : OpenCause) → IsTailBranch c s i d → IsTailStopped c s i why → ⊥
branched_or_stopped c ps s i d why b t = not_stopped (tail_contributions t.v (poly c i) t.u s) b.tail.tail.is_step.combined (record { step = kind.Tail; v = t.v; q = poly c i; p = s }) why made t.stopped
  where
    own : IsResult (tail_contributions b.tail.v (poly c i) b.tail.u s) b.tail.tail.is_step.combined
    own = subst (λ x. IsResult (contributions (constant (pos 1)) (poly c i) x s) b.tail.tail.is_step.combined) b.tail.tail.a_is (subst (λ x. IsResult (contributions x (poly c i) b.step.a s) b.tail.tail.is_step.combined) b.tail.tail.l_is b.tail.tail.is_step.result)

    made : IsResult (tail_contributions t.v (poly c i) t.u s) b.tail.tail.is_step.combined
    made =
        let same = one_initial c ps i b.tail.v t.v b.tail.u s t.u s b.tail.initial t.initial in
        subst (λ v. IsResult (tail_contributions v (poly c i) t.u s) b.tail.tail.is_step.combined) same.var (subst (λ u. IsResult (tail_contributions b.tail.v (poly c i) u s) b.tail.tail.is_step.combined) same.factor own)

one_tail_cause : (c : CaseState) → ArePolys c → (s : List Term) (i : ℕ) (why other : OpenCause) → IsTailStopped c s i why → IsTailStopped c s i other → why ≡ other
one_tail_cause c ps s i why other a b =
    let same = one_initial c ps i a.v b.v a.u s b.u s a.initial b.initial in
    one_cause (tail_contributions a.v (poly c i) a.u s) (record { step = kind.Tail; v = a.v; q = poly c i; p = s }) why other a.stopped
    (subst (λ v. IsStoppedBy (tail_contributions v (poly c i) a.u s) (record { step = kind.Tail; v = v; q = poly c i; p = s }) other) (sym same.var) (subst (λ u. IsStoppedBy (tail_contributions b.v (poly c i) u s) (record { step = kind.Tail; v = b.v; q = poly c i; p = s }) other) (sym same.factor) b.stopped))

-- there is one list of steps to a remainder, and one cone
abbrev pub OneRemainder : Type 0
OneRemainder = (units list : List (List Term)) (n : List Term) (steps others : List Step) → HaveMainVariables list → AreSteps units list n steps → AreSteps units list n others → steps ≡ others

abbrev pub OneCone : Type 0
OneCone = (root : List (List Term)) (ds : List Decision) (ls : List Line) (end : Item) (r s : RefutationParts) → IsCone root ds ls end r → IsCone root ds ls end s → r ≡ s

-- nothing is due for zero
pub zero_steps : (c : CaseState) (n : List Term) (steps : List Step) → HasZeroRemainder c n steps → AreSteps (known c) (polys c) n steps
zero_steps c n steps h = record { each = h.each; finished = λ i p v e d. absurd (none v p (subst (λ x. CanReduce x p v) h.zero d.can)) }
  where
    none : (v : ℕ) (p : List Term) → CanReduce [] p v → ⊥
    none v p d = let a = d.occurs in let b = d.below in absurd (omega (arith, a, b))

module _ (remainder : OneRemainder) (cone : OneCone) (root : List (List Term)) (budget : ℕ) where
  one_refutation : (c : CaseState) (k : ℕ) (r s : RefutationParts) → IsRegular c → IsAlive c → IsSettled c → IsRefutation root c k r → IsRefutation root c k s → r ≡ s
  one_refutation c k r s g a h x y =
      let steps : x.steps ≡ y.steps = remainder (known c) (polys c) (condition c k) x.steps y.steps (settled_variables c g a h) (zero_steps c (condition c k) x.steps x.remainder) (zero_steps c (condition c k) y.steps y.remainder) in
      let last : x.last ≡ y.last = omega (arith, x.last_is, y.last_is, ap length steps) in
      let L : List Step → List Line = λ ss. c.lines ++ back_lines c (length c.lines) (condition c k) ss in
      cone root c.decisions (L x.steps) (item.Line x.last) r s x.cone
      (subst (λ ss. IsCone root c.decisions (L ss) (item.Line x.last) s) (sym steps) (subst (λ n. IsCone root c.decisions (L y.steps) (item.Line n) s) (sym last) y.cone))

  abbrev open_end : CaseState → OpenCause → End
  open_end c why = outcome.Leaf (leaf_of c (leaf_end.Open why))

  abbrev dead_of : RefutationParts → End
  dead_of r = outcome.Dead r

  abbrev split_of : List Term → CaseState → CaseState → End
  split_of by z n = outcome.Split by z n

  -- two reductions that are due are one
  same_reduced : (c : CaseState) → ArePolys c → (q p v q' p' v' : ℕ) (d : CaseState) → IsMove c (Reduce q p v) → IsMove c (Reduce q' p' v') → IsReduced c q' p' v' d → IsReduced c q p v d
  same_reduced c ps q p v q' p' v' d a b r =
      let e : _ = reduce_parts q p v q' p' v' (one_move c ps (Reduce q p v) (Reduce q' p' v') a b) in
      subst (λ i. IsReduced c i p v d) (sym e.0) (subst (λ i. IsReduced c q' i v d) (sym e.1) (subst (λ i. IsReduced c q' p' i d) (sym e.2) r))

  same_stopped : (c : CaseState) → ArePolys c → (q p v q' p' v' : ℕ) (why : OpenCause) → IsMove c (Reduce q p v) → IsMove c (Reduce q' p' v') → IsReductionStopped c q' p' v' why → IsReductionStopped c q p v why
  same_stopped c ps q p v q' p' v' why a b r =
      let e : _ = reduce_parts q p v q' p' v' (one_move c ps (Reduce q p v) (Reduce q' p' v') a b) in
      subst (λ i. IsReductionStopped c i p v why) (sym e.0) (subst (λ i. IsReductionStopped c q' i v why) (sym e.1) (subst (λ i. IsReductionStopped c q' p' i why) (sym e.2) r))

  reduce_or_split : (c : CaseState) → ArePolys c → (q p v : ℕ) (s : List Term) (t : Option ℕ) → IsMove c (Reduce q p v) → IsMove c (Split s t) → ⊥
  reduce_or_split c ps q p v s t a b = no_split q p v s t (one_move c ps (Reduce q p v) (Split s t) a b)

  same_dead : (c : CaseState) (i j : ℕ) (r s : RefutationParts) → IsLeast (IsDeadAt c) i → IsLeast (IsDeadAt c) j → IsCone root c.decisions c.lines (equation c i).item r → IsCone root c.decisions c.lines (equation c j).item s → dead_of r ≡ dead_of s
  same_dead c i j r s a b k l = ap dead_of (cone root c.decisions c.lines (equation c i).item r s k (subst (λ n. IsCone root c.decisions c.lines (equation c n).item s) (sym (one_least (IsDeadAt c) i j a b)) l))

  same_refuted : (c : CaseState) → IsRegular c → IsAlive c → IsSettled c → (i j : ℕ) (r s : RefutationParts) → IsLeast (IsRefutedAt c) i → IsLeast (IsRefutedAt c) j → IsRefutation root c i r → IsRefutation root c j s → dead_of r ≡ dead_of s
  same_refuted c g al st i j r s a b k l = ap dead_of (one_refutation c i r s g al st k (subst (λ n. IsRefutation root c n s) (sym (one_least (IsRefutedAt c) i j a b)) l))

  same_split : (c : CaseState) → IsRegular c → (b : List Term) (g : Option ℕ) (z n : CaseState) (b' : List Term) (g' : Option ℕ) (z' n' : CaseState) → IsMove c (Split b g) → IsMove c (Split b' g') → IsBranch c b true g z → IsBranch c b false g n → IsBranch c b' true g' z' → IsBranch c b' false g' n' → split_of b z n ≡ split_of b' z' n'
  same_split c reg b g z n b' g' z' n' m m' s t s' t' =
      let ps = regular_polys c reg in
      let e : (b ≡ b') × (g ≡ g') = split_parts b b' g g' (one_move c ps (Split b g) (Split b' g') m m') in
      let zero : z ≡ z' = one_branch c b true g z z' ps (regular_each c reg) s (subst (λ u. IsBranch c u true g z') (sym e.0) (subst (λ u. IsBranch c b' true u z') (sym e.1) s')) in
      let nonzero : n ≡ n' = one_branch c b false g n n' ps (regular_each c reg) t (subst (λ u. IsBranch c u false g n') (sym e.0) (subst (λ u. IsBranch c b' false u n') (sym e.1) t')) in
      ap (λ u. split_of u z n) e.0 ∙ ap (λ u. split_of b' u n) zero ∙ ap (λ u. split_of b' z' u) nonzero

  split_stopped : (c : CaseState) → ArePolys c → (b : List Term) (g : Option ℕ) (z : CaseState) (b' : List Term) (i : ℕ) (why : OpenCause) → IsMove c (Split b g) → IsMove c (Split b' (Some i)) → IsBranch c b true g z → IsTailStopped c b' i why → ⊥
  split_stopped c ps b g z b' i why m m' s t =
      let e : (b ≡ b') × (g ≡ Some i) = split_parts b b' g (Some i) (one_move c ps (Split b g) (Split b' (Some i)) m m') in
      branched_or_stopped c ps b' i z why (subst (λ u. IsBranch c u true (Some i) z) e.0 (subst (λ u. IsBranch c b true u z) e.1 s)) t

  Some_same : (i j : ℕ) → Some i ≡ Some j → i ≡ j
  Some_same i j e = cc e

  same_tail_stopped : (c : CaseState) → ArePolys c → (b : List Term) (i : ℕ) (why : OpenCause) (b' : List Term) (j : ℕ) (other : OpenCause) → IsMove c (Split b (Some i)) → IsMove c (Split b' (Some j)) → IsTailStopped c b i why → IsTailStopped c b' j other → open_end c why ≡ open_end c other
  same_tail_stopped c ps b i why b' j other m m' s t =
      let e : (b ≡ b') × (Some i ≡ Some j) = split_parts b b' (Some i) (Some j) (one_move c ps (Split b (Some i)) (Split b' (Some j)) m m') in
      ap (open_end c) (one_tail_cause c ps b i why other s (subst (λ u. IsTailStopped c u i other) (sym e.0) (subst (λ n. IsTailStopped c b' n other) (sym (Some_same i j e.1)) t)))

  -- a case and a budget have one end
  pub one_end : (c : CaseState) (o o' : End) → IsRegular c → IsEnd root budget c o → IsEnd root budget c o' → o ≡ o'
  one_end c o o' g (ends.IsEnd.dead c1 i1 r1 l1 k1) (ends.IsEnd.dead c2 i2 r2 l2 k2) = same_dead c i1 i2 r1 r2 l1 l2 k1 k2
  one_end c o o' g (ends.IsEnd.dead c1 i1 r1 l1 k1) (ends.IsEnd.spent c2 m2 a2 u2 w2) = absurd (a2 i1 l1.has)
  one_end c o o' g (ends.IsEnd.dead c1 i1 r1 l1 k1) (ends.IsEnd.reduced c2 q2 p2 v2 d2 o2 a2 u2 w2 s2 t2) = absurd (a2 i1 l1.has)
  one_end c o o' g (ends.IsEnd.dead c1 i1 r1 l1 k1) (ends.IsEnd.reduction_stopped c2 q2 p2 v2 y2 a2 u2 w2 s2) = absurd (a2 i1 l1.has)
  one_end c o o' g (ends.IsEnd.dead c1 i1 r1 l1 k1) (ends.IsEnd.split c2 b2 g2 z2 n2 a2 u2 w2 s2 t2) = absurd (a2 i1 l1.has)
  one_end c o o' g (ends.IsEnd.dead c1 i1 r1 l1 k1) (ends.IsEnd.tail_stopped c2 b2 i2 y2 a2 u2 w2 s2) = absurd (a2 i1 l1.has)
  one_end c o o' g (ends.IsEnd.dead c1 i1 r1 l1 k1) (ends.IsEnd.refuted c2 k2 r2 a2 h2 l2 s2) = absurd (a2 i1 l1.has)
  one_end c o o' g (ends.IsEnd.dead c1 i1 r1 l1 k1) (ends.IsEnd.triangular c2 a2 h2 e2) = absurd (a2 i1 l1.has)
  one_end c o o' g (ends.IsEnd.spent c1 m1 a1 u1 w1) (ends.IsEnd.dead c2 i2 r2 l2 k2) = absurd (a1 i2 l2.has)
  one_end c o o' g (ends.IsEnd.spent c1 m1 a1 u1 w1) (ends.IsEnd.spent c2 m2 a2 u2 w2) = refl
  one_end c o o' g (ends.IsEnd.spent c1 m1 a1 u1 w1) (ends.IsEnd.reduced c2 q2 p2 v2 d2 o2 a2 u2 w2 s2 t2) = absurd (omega (arith, w1, w2))
  one_end c o o' g (ends.IsEnd.spent c1 m1 a1 u1 w1) (ends.IsEnd.reduction_stopped c2 q2 p2 v2 y2 a2 u2 w2 s2) = absurd (omega (arith, w1, w2))
  one_end c o o' g (ends.IsEnd.spent c1 m1 a1 u1 w1) (ends.IsEnd.split c2 b2 g2 z2 n2 a2 u2 w2 s2 t2) = absurd (omega (arith, w1, w2))
  one_end c o o' g (ends.IsEnd.spent c1 m1 a1 u1 w1) (ends.IsEnd.tail_stopped c2 b2 i2 y2 a2 u2 w2 s2) = absurd (omega (arith, w1, w2))
  one_end c o o' g (ends.IsEnd.spent c1 m1 a1 u1 w1) (ends.IsEnd.refuted c2 k2 r2 a2 h2 l2 s2) = absurd (unsettled c m1 u1 h2)
  one_end c o o' g (ends.IsEnd.spent c1 m1 a1 u1 w1) (ends.IsEnd.triangular c2 a2 h2 e2) = absurd (unsettled c m1 u1 h2)
  one_end c o o' g (ends.IsEnd.reduced c1 q1 p1 v1 d1 o1 a1 u1 w1 s1 t1) (ends.IsEnd.dead c2 i2 r2 l2 k2) = absurd (a1 i2 l2.has)
  one_end c o o' g (ends.IsEnd.reduced c1 q1 p1 v1 d1 o1 a1 u1 w1 s1 t1) (ends.IsEnd.spent c2 m2 a2 u2 w2) = absurd (omega (arith, w1, w2))
  one_end c o o' g (ends.IsEnd.reduced c1 q1 p1 v1 d1 o1 a1 u1 w1 s1 t1) (ends.IsEnd.reduced c2 q2 p2 v2 d2 o2 a2 u2 w2 s2 t2) = one_end d1 o o' (regular_reduced c q1 p1 v1 d1 g s1) t1 (subst (λ d. IsEnd root budget d o') (one_reduced c q1 p1 v1 d2 d1 (same_reduced c (regular_polys c g) q1 p1 v1 q2 p2 v2 d2 u1 u2 s2) s1) t2)
  one_end c o o' g (ends.IsEnd.reduced c1 q1 p1 v1 d1 o1 a1 u1 w1 s1 t1) (ends.IsEnd.reduction_stopped c2 q2 p2 v2 y2 a2 u2 w2 s2) = absurd (reduced_or_stopped c q1 p1 v1 d1 y2 s1 (same_stopped c (regular_polys c g) q1 p1 v1 q2 p2 v2 y2 u1 u2 s2))
  one_end c o o' g (ends.IsEnd.reduced c1 q1 p1 v1 d1 o1 a1 u1 w1 s1 t1) (ends.IsEnd.split c2 b2 g2 z2 n2 a2 u2 w2 s2 t2) = absurd (reduce_or_split c (regular_polys c g) q1 p1 v1 b2 g2 u1 u2)
  one_end c o o' g (ends.IsEnd.reduced c1 q1 p1 v1 d1 o1 a1 u1 w1 s1 t1) (ends.IsEnd.tail_stopped c2 b2 i2 y2 a2 u2 w2 s2) = absurd (reduce_or_split c (regular_polys c g) q1 p1 v1 b2 (Some i2) u1 u2)
  one_end c o o' g (ends.IsEnd.reduced c1 q1 p1 v1 d1 o1 a1 u1 w1 s1 t1) (ends.IsEnd.refuted c2 k2 r2 a2 h2 l2 s2) = absurd (unsettled c (Reduce q1 p1 v1) u1 h2)
  one_end c o o' g (ends.IsEnd.reduced c1 q1 p1 v1 d1 o1 a1 u1 w1 s1 t1) (ends.IsEnd.triangular c2 a2 h2 e2) = absurd (unsettled c (Reduce q1 p1 v1) u1 h2)
  one_end c o o' g (ends.IsEnd.reduction_stopped c1 q1 p1 v1 y1 a1 u1 w1 s1) (ends.IsEnd.dead c2 i2 r2 l2 k2) = absurd (a1 i2 l2.has)
  one_end c o o' g (ends.IsEnd.reduction_stopped c1 q1 p1 v1 y1 a1 u1 w1 s1) (ends.IsEnd.spent c2 m2 a2 u2 w2) = absurd (omega (arith, w1, w2))
  one_end c o o' g (ends.IsEnd.reduction_stopped c1 q1 p1 v1 y1 a1 u1 w1 s1) (ends.IsEnd.reduced c2 q2 p2 v2 d2 o2 a2 u2 w2 s2 t2) = absurd (reduced_or_stopped c q2 p2 v2 d2 y1 s2 (same_stopped c (regular_polys c g) q2 p2 v2 q1 p1 v1 y1 u2 u1 s1))
  one_end c o o' g (ends.IsEnd.reduction_stopped c1 q1 p1 v1 y1 a1 u1 w1 s1) (ends.IsEnd.reduction_stopped c2 q2 p2 v2 y2 a2 u2 w2 s2) = ap (open_end c) (one_cause (step_contributions v1 (poly c q1) (poly c p1)) (record { step = kind.Reduce; v = v1; q = poly c q1; p = poly c p1 }) y1 y2 s1 (same_stopped c (regular_polys c g) q1 p1 v1 q2 p2 v2 y2 u1 u2 s2))
  one_end c o o' g (ends.IsEnd.reduction_stopped c1 q1 p1 v1 y1 a1 u1 w1 s1) (ends.IsEnd.split c2 b2 g2 z2 n2 a2 u2 w2 s2 t2) = absurd (reduce_or_split c (regular_polys c g) q1 p1 v1 b2 g2 u1 u2)
  one_end c o o' g (ends.IsEnd.reduction_stopped c1 q1 p1 v1 y1 a1 u1 w1 s1) (ends.IsEnd.tail_stopped c2 b2 i2 y2 a2 u2 w2 s2) = absurd (reduce_or_split c (regular_polys c g) q1 p1 v1 b2 (Some i2) u1 u2)
  one_end c o o' g (ends.IsEnd.reduction_stopped c1 q1 p1 v1 y1 a1 u1 w1 s1) (ends.IsEnd.refuted c2 k2 r2 a2 h2 l2 s2) = absurd (unsettled c (Reduce q1 p1 v1) u1 h2)
  one_end c o o' g (ends.IsEnd.reduction_stopped c1 q1 p1 v1 y1 a1 u1 w1 s1) (ends.IsEnd.triangular c2 a2 h2 e2) = absurd (unsettled c (Reduce q1 p1 v1) u1 h2)
  one_end c o o' g (ends.IsEnd.split c1 b1 g1 z1 n1 a1 u1 w1 s1 t1) (ends.IsEnd.dead c2 i2 r2 l2 k2) = absurd (a1 i2 l2.has)
  one_end c o o' g (ends.IsEnd.split c1 b1 g1 z1 n1 a1 u1 w1 s1 t1) (ends.IsEnd.spent c2 m2 a2 u2 w2) = absurd (omega (arith, w1, w2))
  one_end c o o' g (ends.IsEnd.split c1 b1 g1 z1 n1 a1 u1 w1 s1 t1) (ends.IsEnd.reduced c2 q2 p2 v2 d2 o2 a2 u2 w2 s2 t2) = absurd (reduce_or_split c (regular_polys c g) q2 p2 v2 b1 g1 u2 u1)
  one_end c o o' g (ends.IsEnd.split c1 b1 g1 z1 n1 a1 u1 w1 s1 t1) (ends.IsEnd.reduction_stopped c2 q2 p2 v2 y2 a2 u2 w2 s2) = absurd (reduce_or_split c (regular_polys c g) q2 p2 v2 b1 g1 u2 u1)
  one_end c o o' g (ends.IsEnd.split c1 b1 g1 z1 n1 a1 u1 w1 s1 t1) (ends.IsEnd.split c2 b2 g2 z2 n2 a2 u2 w2 s2 t2) = same_split c g b1 g1 z1 n1 b2 g2 z2 n2 u1 u2 s1 t1 s2 t2
  one_end c o o' g (ends.IsEnd.split c1 b1 g1 z1 n1 a1 u1 w1 s1 t1) (ends.IsEnd.tail_stopped c2 b2 i2 y2 a2 u2 w2 s2) = absurd (split_stopped c (regular_polys c g) b1 g1 z1 b2 i2 y2 u1 u2 s1 s2)
  one_end c o o' g (ends.IsEnd.split c1 b1 g1 z1 n1 a1 u1 w1 s1 t1) (ends.IsEnd.refuted c2 k2 r2 a2 h2 l2 s2) = absurd (unsettled c (Split b1 g1) u1 h2)
  one_end c o o' g (ends.IsEnd.split c1 b1 g1 z1 n1 a1 u1 w1 s1 t1) (ends.IsEnd.triangular c2 a2 h2 e2) = absurd (unsettled c (Split b1 g1) u1 h2)
  one_end c o o' g (ends.IsEnd.tail_stopped c1 b1 i1 y1 a1 u1 w1 s1) (ends.IsEnd.dead c2 i2 r2 l2 k2) = absurd (a1 i2 l2.has)
  one_end c o o' g (ends.IsEnd.tail_stopped c1 b1 i1 y1 a1 u1 w1 s1) (ends.IsEnd.spent c2 m2 a2 u2 w2) = absurd (omega (arith, w1, w2))
  one_end c o o' g (ends.IsEnd.tail_stopped c1 b1 i1 y1 a1 u1 w1 s1) (ends.IsEnd.reduced c2 q2 p2 v2 d2 o2 a2 u2 w2 s2 t2) = absurd (reduce_or_split c (regular_polys c g) q2 p2 v2 b1 (Some i1) u2 u1)
  one_end c o o' g (ends.IsEnd.tail_stopped c1 b1 i1 y1 a1 u1 w1 s1) (ends.IsEnd.reduction_stopped c2 q2 p2 v2 y2 a2 u2 w2 s2) = absurd (reduce_or_split c (regular_polys c g) q2 p2 v2 b1 (Some i1) u2 u1)
  one_end c o o' g (ends.IsEnd.tail_stopped c1 b1 i1 y1 a1 u1 w1 s1) (ends.IsEnd.split c2 b2 g2 z2 n2 a2 u2 w2 s2 t2) = absurd (split_stopped c (regular_polys c g) b2 g2 z2 b1 i1 y1 u2 u1 s2 s1)
  one_end c o o' g (ends.IsEnd.tail_stopped c1 b1 i1 y1 a1 u1 w1 s1) (ends.IsEnd.tail_stopped c2 b2 i2 y2 a2 u2 w2 s2) = same_tail_stopped c (regular_polys c g) b1 i1 y1 b2 i2 y2 u1 u2 s1 s2
  one_end c o o' g (ends.IsEnd.tail_stopped c1 b1 i1 y1 a1 u1 w1 s1) (ends.IsEnd.refuted c2 k2 r2 a2 h2 l2 s2) = absurd (unsettled c (Split b1 (Some i1)) u1 h2)
  one_end c o o' g (ends.IsEnd.tail_stopped c1 b1 i1 y1 a1 u1 w1 s1) (ends.IsEnd.triangular c2 a2 h2 e2) = absurd (unsettled c (Split b1 (Some i1)) u1 h2)
  one_end c o o' g (ends.IsEnd.refuted c1 k1 r1 a1 h1 l1 s1) (ends.IsEnd.dead c2 i2 r2 l2 k2) = absurd (a1 i2 l2.has)
  one_end c o o' g (ends.IsEnd.refuted c1 k1 r1 a1 h1 l1 s1) (ends.IsEnd.spent c2 m2 a2 u2 w2) = absurd (unsettled c m2 u2 h1)
  one_end c o o' g (ends.IsEnd.refuted c1 k1 r1 a1 h1 l1 s1) (ends.IsEnd.reduced c2 q2 p2 v2 d2 o2 a2 u2 w2 s2 t2) = absurd (unsettled c (Reduce q2 p2 v2) u2 h1)
  one_end c o o' g (ends.IsEnd.refuted c1 k1 r1 a1 h1 l1 s1) (ends.IsEnd.reduction_stopped c2 q2 p2 v2 y2 a2 u2 w2 s2) = absurd (unsettled c (Reduce q2 p2 v2) u2 h1)
  one_end c o o' g (ends.IsEnd.refuted c1 k1 r1 a1 h1 l1 s1) (ends.IsEnd.split c2 b2 g2 z2 n2 a2 u2 w2 s2 t2) = absurd (unsettled c (Split b2 g2) u2 h1)
  one_end c o o' g (ends.IsEnd.refuted c1 k1 r1 a1 h1 l1 s1) (ends.IsEnd.tail_stopped c2 b2 i2 y2 a2 u2 w2 s2) = absurd (unsettled c (Split b2 (Some i2)) u2 h1)
  one_end c o o' g (ends.IsEnd.refuted c1 k1 r1 a1 h1 l1 s1) (ends.IsEnd.refuted c2 k2 r2 a2 h2 l2 s2) = same_refuted c g a1 h1 k1 k2 r1 r2 l1 l2 s1 s2
  one_end c o o' g (ends.IsEnd.refuted c1 k1 r1 a1 h1 l1 s1) (ends.IsEnd.triangular c2 a2 h2 e2) = absurd (e2 k1 l1.has)
  one_end c o o' g (ends.IsEnd.triangular c1 a1 h1 e1) (ends.IsEnd.dead c2 i2 r2 l2 k2) = absurd (a1 i2 l2.has)
  one_end c o o' g (ends.IsEnd.triangular c1 a1 h1 e1) (ends.IsEnd.spent c2 m2 a2 u2 w2) = absurd (unsettled c m2 u2 h1)
  one_end c o o' g (ends.IsEnd.triangular c1 a1 h1 e1) (ends.IsEnd.reduced c2 q2 p2 v2 d2 o2 a2 u2 w2 s2 t2) = absurd (unsettled c (Reduce q2 p2 v2) u2 h1)
  one_end c o o' g (ends.IsEnd.triangular c1 a1 h1 e1) (ends.IsEnd.reduction_stopped c2 q2 p2 v2 y2 a2 u2 w2 s2) = absurd (unsettled c (Reduce q2 p2 v2) u2 h1)
  one_end c o o' g (ends.IsEnd.triangular c1 a1 h1 e1) (ends.IsEnd.split c2 b2 g2 z2 n2 a2 u2 w2 s2 t2) = absurd (unsettled c (Split b2 g2) u2 h1)
  one_end c o o' g (ends.IsEnd.triangular c1 a1 h1 e1) (ends.IsEnd.tail_stopped c2 b2 i2 y2 a2 u2 w2 s2) = absurd (unsettled c (Split b2 (Some i2)) u2 h1)
  one_end c o o' g (ends.IsEnd.triangular c1 a1 h1 e1) (ends.IsEnd.refuted c2 k2 r2 a2 h2 l2 s2) = absurd (e1 k2 l2.has)
  one_end c o o' g (ends.IsEnd.triangular c1 a1 h1 e1) (ends.IsEnd.triangular c2 a2 h2 e2) = refl
