-- What keeps that a case belongs to a root.
use Rattle.std.specs.Prelude.{◌≡◌, ◌≢◌, ℕ, zero, suc, ◌+◌, ◌<◌, ◌≤◌, ◌⊎◌, Bool, true, false, List, [], ◌∷◌, ◌++◌, length, remove, slice_get, All, Contains, refl}
use mathlib.Core.Logic.{inl, inr}
use Rattle.std.proofs.Common.{arith, subst, sym, ◌∙◌, ap, append_assoc, append-nil, length-append}
use Rattle.std.proofs.lemmas.List.Elements.{All-append, All-cons, All-nil, All-from_recursion, recursion_from_All}
use Rattle.std.specs.List.{AllByRecursion}
use Rattle.std.specs.List.Sorted.{IsStrictlySortedBy}
use Rattle.std.specs.declared.option.Option.{Option}
use Rattle.std.specs.declared.option.Option.TheVariants.{None, Some}
use Rattle.sparse_poly.specs.declared.Term.{Term}
use Rattle.sparse_poly.specs.Contributions.{IsPoly, contributions}
use Rattle.sparse_poly.specs.Primitive.{IsPrimitive}
use Rattle.sparse_poly.specs.Reads.{degree_in, leading_in}
use Rattle.sparse_poly.specs.Clearing.{IsUnit}
use Rattle.sparse_poly.proofs.Descending.{all_map}
use Rattle.sparse_poly.proofs.Powers.{IsPoly-coefficient_of_power}
use Rattle.sparse_poly.proofs.UnitOne.{unit_one}
use Rattle.pseudo_rem.specs.declared.steps.Reduction.{Reduction}
use Rattle.pseudo_rem.specs.Steps.{IsStep}
use Rattle.derive_lines.specs.declared.parts.Decision.{Decision}
use Rattle.derive_lines.specs.declared.parts.Line.{Line}
use Rattle.derive_lines.specs.declared.parts.Item.{Item}
use Rattle.derive_lines.specs.declared.parts.Item.TheVariants as item
use Rattle.derive_lines.specs.Lines.{conditions, item_poly, made_poly, zero_poly}
use Rattle.derive_lines.specs.Recovery.{IsRecovered, is_given, is_zero, AllRecovered}
use Rattle.derive_lines.specs.Refuting.{decided}
use Rattle.case_rules.specs.declared.equation.Equation.{Equation}
use Rattle.case_rules.specs.Cases.{CaseState, root_case, numbered, known, equation, equation_at, poly, polys, polys_of, count}
use Rattle.case_rules.specs.Kept.{added, all_added, item_of}
use Rattle.case_rules.specs.Clearings.{made, IsClearing}
use Rattle.case_rules.specs.Branches.{step_line, stepped, zero_equation, IsReduced, IsNonzeroBranch, IsZeroBranch, IsTailBranch, CanReduce, CanSplit}
use Rattle.case_rules.specs.Belonging.{IsCondition, IsOfItem, Belongs, IsRootList}
use Rattle.case_rules.proofs.AddedEquations.{every_added, every_all_added, every_removed, Ascend, ascend_added, ascend_all_added, ascend_removed, Stands, stands_added, own_added, own_all_added, stands_removed, stands_or_removed, contains_stands, stands_contains, item_of_is}
use Rattle.case_rules.proofs.Derivations.{IsDerived, Derives, DerivesAll, derived_lines, back_by, cleared_derives, cleared_derive, stripped_derive, derive_then}
use Rattle.case_rules.proofs.Items.{AreFine, IsFineLine, at_seam, before_or_last, IsLast, item_lines, item_decisions, fine_more, fine_decisions, recovered_more, conditions_zero, conditions_nonzero}
use Rattle.case_rules.proofs.MoreConditions.{factor_unit, unit_more}
use Rattle.case_rules.proofs.Nonzero.{leading_nonzero, power_nonzero, factor_nonzero}
use Rattle.case_rules.proofs.Regular.{IsSound, IsRegular, within_at}
use Rattle.case_rules.proofs.Sides.{step_sides}

sound : (es : List Equation) → AllByRecursion IsPoly (polys_of es) → AllByRecursion (λ (p : List Term). p ≢ []) (polys_of es) → AllByRecursion IsSound es
sound [] p z = tt
sound (e ∷ es) p z = (record { poly = p.0; nonzero = z.0 }, sound es p.1 z.1)

-- what belongs to a root is regular
pub regular : (root : List (List Term)) (c : CaseState) → Belongs root c → IsRegular c
regular root c b = sound c.equations (recursion_from_All IsPoly (polys_of c.equations) b.primitive.polys) (recursion_from_All (λ (p : List Term). p ≢ []) (polys_of c.equations) b.ascending.nonzero)

-- a property of the polynomials of all equations
over_polys : (P : List Term → Type 0) (es : List Equation) → AllByRecursion (λ (e : Equation). P e.poly) es → All P (polys_of es)
over_polys P es h = All-from_recursion P (polys_of es) (by es h)
  where
    by : (es : List Equation) → AllByRecursion (λ (e : Equation). P e.poly) es → AllByRecursion P (polys_of es)
    by [] h = tt
    by (e ∷ es) h = (h.0, by es h.1)

from_polys : (P : List Term → Type 0) (es : List Equation) → All P (polys_of es) → AllByRecursion (λ (e : Equation). P e.poly) es
from_polys P es h = by es (recursion_from_All P (polys_of es) h)
  where
    by : (es : List Equation) → AllByRecursion P (polys_of es) → AllByRecursion (λ (e : Equation). P e.poly) es
    by [] h = tt
    by (e ∷ es) h = (h.0, by es h.1)

-- a case as lines that are fine and equations that are derived
module _ (root : List (List Term)) where
  every_of : (P : Equation → Type 0) (es : List Equation) → ((i : ℕ) → i < length es → P (equation_at es i)) → AllByRecursion P es
  every_of P [] h = tt
  every_of P (e ∷ es) h = (h 0 (omega arith), every_of P es (λ i l. h (suc i) (omega (arith, l))))

  pub fine : (c : CaseState) → Belongs root c → AreFine root c.decisions c.lines
  fine c b = λ k line is. record { good = b.lines k line is; multiplier = b.multipliers k line is }

  pub derived : (c : CaseState) → Belongs root c → AllByRecursion (IsDerived root c.decisions c.lines) c.equations
  derived c b = every_of (IsDerived root c.decisions c.lines) c.equations (λ i l. record {
    item = b.items i l;
    poly = within_at (λ (e : Equation). IsPoly e.poly) c.equations i l (from_polys IsPoly c.equations b.primitive.polys);
    primitive = within_at (λ (e : Equation). IsPrimitive e.poly) c.equations i l (from_polys IsPrimitive c.equations b.primitive.primitive);
  })

  -- the parts of which it is made that a case belongs
  pub belongs_by : (c : CaseState) → AreFine root c.decisions c.lines → AllByRecursion (IsDerived root c.decisions c.lines) c.equations → AllByRecursion (λ (e : Equation). e.poly ≢ []) c.equations → Ascend c.equations → AllRecovered root c.decisions c.lines (polys c) → All IsCondition (known c) → length c.decisions ≤ c.moves → Belongs root c
  belongs_by c f d z a r n m = record {
    lines = λ k line is. (f k line is).good;
    multipliers = λ k line is. (f k line is).multiplier;
    items = λ i l. (within_at (IsDerived root c.decisions c.lines) c.equations i l d).item;
    primitive = record {
      polys = over_polys IsPoly c.equations (all_map (IsDerived root c.decisions c.lines) (λ (e : Equation). IsPoly e.poly) c.equations (λ e x. x.poly) d);
      primitive = over_polys IsPrimitive c.equations (all_map (IsDerived root c.decisions c.lines) (λ (e : Equation). IsPrimitive e.poly) c.equations (λ e x. x.primitive) d);
    };
    ascending = record { nonzero = over_polys (λ p. p ≢ []) c.equations z; ascending = a };
    recovered = r;
    conditions = n;
    depth = m;
  }

  nonzero_of : (c : CaseState) → Belongs root c → AllByRecursion (λ (e : Equation). e.poly ≢ []) c.equations
  nonzero_of c b = from_polys (λ p. p ≢ []) c.equations b.ascending.nonzero

  -- the root case
  root_derived : (k : ℕ) (front ps : List (List Term)) → length front ≡ k → root ≡ front ++ ps → AllByRecursion IsPoly ps → AllByRecursion IsPrimitive ps → AllByRecursion (IsDerived root [] []) (numbered k ps)
  root_derived k front [] l e h i = tt
  root_derived k front (p ∷ ps) l e h i = (
    record { item = ap (λ xs. slice_get xs k) e ∙ ap (λ n. slice_get (front ++ p ∷ ps) n) (sym l) ∙ at_seam front p ps; poly = h.0; primitive = i.0 },
    root_derived (k + 1) (front ++ p ∷ []) ps (length-append front (p ∷ []) ∙ ap (λ n. n + 1) l) (e ∙ sym (append_assoc front (p ∷ []) ps)) h.1 i.1,
  )

  polys_numbered : (k : ℕ) (ps : List (List Term)) → polys_of (numbered k ps) ≡ ps
  polys_numbered k [] = refl
  polys_numbered k (p ∷ ps) = ap (λ xs. p ∷ xs) (polys_numbered (k + 1) ps)

  contains_at : (ps : List (List Term)) (i : ℕ) (p : List Term) → slice_get ps i ≡ Some p → Contains ps p
  contains_at [] i p h = cc h
  contains_at (q ∷ ps) zero p h = (0, omega arith, cc h)
  contains_at (q ∷ ps) (suc i) p h = let c : Contains ps p = contains_at ps i p h in (suc c.0, omega (arith, c.1), c.2)

  pub root_belongs : IsRootList root → Belongs root (root_case root)
  root_belongs h = belongs_by (root_case root)
      (λ k line is. cc is)
      (root_derived 0 [] root refl refl (recursion_from_All IsPoly root h.primitive.polys) (recursion_from_All IsPrimitive root h.primitive.primitive))
      (from_polys (λ p. p ≢ []) (numbered 0 root) h.ascending.nonzero)
      h.ascending.ascending
      (record {
        equations = λ i p is. is_given (subst (λ xs. Contains xs p) (sym (polys_numbered 0 root)) (contains_at root i p is));
        decisions = λ j d is z. cc is;
      })
      (All-nil IsCondition)
      (omega arith)

  -- what stands among equations is recovered, and so is zero
  given_stands : (ds : List Decision) (ls : List Line) (es : List Equation) (n : ℕ) (p : List Term) → (p ≡ []) ⊎ Stands p es → IsRecovered root ds ls (polys_of es) n p
  given_stands ds ls es n p (inl z) = subst (IsRecovered root ds ls (polys_of es) n) (sym z) is_zero
  given_stands ds ls es n p (inr s) = is_given (stands_contains p es s)

  -- all root equations and zero decisions are recovered after more lines and decisions, where the equations and the new zero decisions are
  all_recovered : (ds es : List Decision) (ls more : List Line) (given last : List (List Term)) → ((p : List Term) → IsUnit (conditions ds) p → IsUnit (conditions (ds ++ es)) p) → ((p : List Term) → Contains given p → IsRecovered root (ds ++ es) (ls ++ more) last (length ls) p) → ((j : ℕ) (d : Decision) → slice_get (ds ++ es) j ≡ Some d → d.zero ≡ true → (slice_get ds j ≡ Some d) ⊎ IsRecovered root (ds ++ es) (ls ++ more) last 0 d.poly) → AllRecovered root ds ls given → AllRecovered root (ds ++ es) (ls ++ more) last
  all_recovered ds es ls more given last keeps all decisions h = record {
    equations = λ i p is. recovered_more root ds es ls more given last keeps all 0 p (omega arith) (h.equations i p is);
    decisions = λ j d is z. each j d z (decisions j d is z);
  }
    where
      each : (j : ℕ) (d : Decision) → d.zero ≡ true → (slice_get ds j ≡ Some d) ⊎ IsRecovered root (ds ++ es) (ls ++ more) last 0 d.poly → IsRecovered root (ds ++ es) (ls ++ more) last 0 d.poly
      each j d z (inl is) = recovered_more root ds es ls more given last keeps all 0 d.poly (omega arith) (h.decisions j d is z)
      each j d z (inr r) = r

  -- the line of a step is fine, and leads from q
  step_fine : (ds : List Decision) (ls : List Line) (from by : Item) (q p : List Term) (step : Reduction) → item_poly root ds ls from ≡ Some q → item_poly root ds ls by ≡ Some p → step.a ≢ [] → IsStep (conditions ds) q p step → IsFineLine root ds ls (step_line from by step)
  step_fine ds ls from by q p step f b a s = record {
    good = record {
      from = q;
      by = p;
      refers = record { from_is = f; by_is = b; by_fits = a; from_fits = tt };
      unit = factor_unit (conditions ds) step.m s.stripped.factor_poly s.stripped.out;
      sides = step_sides (conditions ds) (contributions step.l q step.a p) s.combined step.m step.r s.result s.stripped;
    };
    multiplier = s.stripped.factor_poly;
  }

  own_conditions : (ds : List Decision) → AllByRecursion (Contains (conditions ds)) (conditions ds)
  own_conditions ds = by (conditions ds) (conditions ds) [] refl
    where
      by : (ns all front : List (List Term)) → all ≡ front ++ ns → AllByRecursion (Contains all) ns
      by [] all front e = tt
      by (n ∷ ns) all front e = (contains_at all (length front) n (ap (λ xs. slice_get xs (length front)) e ∙ at_seam front n ns), by ns all (front ++ n ∷ []) (e ∙ sym (append_assoc front (n ∷ []) ns)))

  made_item : (ds : List Decision) (ls : List Line) (line : Line) → item_poly root ds (ls ++ line ∷ []) (item.Line (length ls)) ≡ Some line.made
  made_item ds ls line = ap made_poly (at_seam ls line [])

  -- a step is made and what it made is cleared: the lines are fine, what is left is derived, and what was reduced is recovered from it and p
  record IsStepped (ds : List Decision) (ls : List Line) (q p : List Term) (line : Line) (lines : List Line) (rest : Equation) : Type 0 where
    fine : AreFine root ds (ls ++ line ∷ lines)
    derived : IsDerived root ds (ls ++ line ∷ lines) rest
    back : (given : List (List Term)) → IsUnit (conditions ds) line.l → Contains given p → ((n : ℕ) → IsRecovered root ds (ls ++ line ∷ lines) given n rest.poly) → IsRecovered root ds (ls ++ line ∷ lines) given (length ls) q

  stepped_by : (ds : List Decision) (ls : List Line) (from by : Item) (q p : List Term) (step : Reduction) (lines : List Line) (rest : Equation) → AreFine root ds ls → item_poly root ds ls from ≡ Some q → item_poly root ds ls by ≡ Some p → step.a ≢ [] → IsStep (conditions ds) q p step → IsClearing (conditions ds) (length ls + 1) (made step.r (length ls)) lines rest → IsStepped ds ls q p (step_line from by step) lines rest
  unfolding step_fine
  stepped_by ds ls from by q p step lines rest start f b a s c =
      let line : Line = step_line from by step in
      let good : IsFineLine root ds ls line = step_fine ds ls from by q p step f b a s in
      let before : List Line = ls ++ line ∷ [] in
      let run : Derives root ds before (made step.r (length ls)) lines rest =
      cleared_derives root ds (conditions ds) (length ls + 1) (made step.r (length ls)) lines rest before (sym (length-append ls (line ∷ []))) (own_conditions ds) (fine_more root ds ls line start good)
      (record { item = made_item ds ls line; poly = s.stripped.rest_poly; primitive = s.stripped.primitive }) c in
      let whole : before ++ lines ≡ ls ++ line ∷ lines = append_assoc ls (line ∷ []) lines in
      let all : (before ++ lines) ++ [] ≡ ls ++ line ∷ lines = append-nil (before ++ lines) ∙ whole in
      record {
        fine = subst (AreFine root ds) whole run.fine;
        derived = subst (λ xs. IsDerived root ds xs rest) whole run.derived;
        back = λ given unit member left.
            let r : IsRecovered root ds (ls ++ line ∷ lines) given (length before) step.r =
            subst (λ xs. IsRecovered root ds xs given (length before) step.r) all (run.back [] given (subst (λ xs. IsRecovered root ds xs given (length before + length lines) rest.poly) (sym all) (left (length before + length lines)))) in
            back_by root ds ls line lines given q p refl unit good.good.refers (is_given member) (subst (λ n. IsRecovered root ds (ls ++ line ∷ lines) given n step.r) (length-append ls (line ∷ [])) r);
      }

  item_at : (c : CaseState) → Belongs root c → (i : ℕ) → i < count c → IsOfItem root c i
  item_at c b i l = b.items i l

  no_decisions : (ds : List Decision) → ds ++ [] ≡ ds
  no_decisions ds = append-nil ds

  -- the parts after a reduction or a tail step
  pub reduced_belongs : (c : CaseState) (q p v : ℕ) (d : CaseState) → CanReduce c q p v → IsReduced c q p v d → Belongs root c → Belongs root d
  reduced_belongs c q p v d can r b = subst (Belongs root) (sym r.is)
      (belongs_by after step.fine
      (every_added (IsDerived root c.decisions lines) r.rest left (λ z. step.derived) (every_removed (IsDerived root c.decisions lines) c.equations q (all_map (IsDerived root c.decisions c.lines) (IsDerived root c.decisions lines) c.equations (derived_lines root c.decisions c.lines (line ∷ r.lines)) (derived c b))))
      (every_added (λ (e : Equation). e.poly ≢ []) r.rest left (λ z. z) (every_removed (λ (e : Equation). e.poly ≢ []) c.equations q (nonzero_of c b)))
      (ascend_added r.rest left (ascend_removed c.equations q b.ascending.ascending))
      recovered b.conditions (let m = b.depth in omega (arith, m)))
    where
      line : Line
      line = step_line (equation c q).item (equation c p).item r.step

      lines : List Line
      lines = c.lines ++ line ∷ r.lines

      left : List Equation
      left = remove c.equations q

      after : CaseState
      after = stepped c c.decisions left (line ∷ r.lines) r.rest

      some : poly c q ≢ []
      some e = let low = can.can.occurs in let high = can.can.below in absurd (omega (arith, low, high, ap (degree_in v) e))

      step : IsStepped c.decisions c.lines (poly c q) (poly c p) line r.lines r.rest
      step = stepped_by c.decisions c.lines (equation c q).item (equation c p).item (poly c q) (poly c p) r.step r.lines r.rest (fine c b) (b.items q can.q_place) (b.items p can.p_place)
          (subst (λ a. a ≢ []) (sym r.reduction.a_is) (power_nonzero v _ (leading_in v (poly c q)) (leading_nonzero v (poly c q) some))) r.reduction.is_step r.clearing

      unit : IsUnit (known c) line.l
      unit = subst (IsUnit (known c)) (sym r.reduction.l_is) can.unit

      back : IsRecovered root c.decisions lines (polys after) (length c.lines) (poly c q)
      back = step.back (polys after) unit (stands_contains (poly c p) (added r.rest left) (stands_added (poly c p) r.rest left (stands_removed c.equations p q can.p_place (λ e. can.apart (sym e))))) (λ n. given_stands c.decisions lines (added r.rest left) n r.rest.poly (own_added r.rest left))

      each : (x : List Term) → Contains (polys c) x → IsRecovered root c.decisions lines (polys after) (length c.lines) x
      each x m = by (stands_or_removed x c.equations q (contains_stands x c.equations m))
        where
          by : (poly c q ≡ x) ⊎ Stands x left → IsRecovered root c.decisions lines (polys after) (length c.lines) x
          by (inl e) = subst (IsRecovered root c.decisions lines (polys after) (length c.lines)) e back
          by (inr s) = given_stands c.decisions lines (added r.rest left) (length c.lines) x (inr (stands_added x r.rest left s))

      recovered : AllRecovered root c.decisions lines (polys after)
      recovered = subst (λ ds. AllRecovered root ds lines (polys after)) (no_decisions c.decisions)
          (all_recovered c.decisions [] c.lines (line ∷ r.lines) (polys c) (polys after) (λ x u. subst (λ ds. IsUnit (conditions ds) x) (sym (no_decisions c.decisions)) u)
          (λ x m. subst (λ ds. IsRecovered root ds lines (polys after) (length c.lines) x) (sym (no_decisions c.decisions)) (each x m))
          (λ j d is z. inl (ap (λ ds. slice_get ds j) (sym (no_decisions c.decisions)) ∙ is)) b.recovered)

  -- a branch
  pub condition_of : (c : CaseState) (s : List Term) (tail : Option ℕ) → CanSplit c s tail → IsCondition s
  condition_of c s None can = inl can
  condition_of c s (Some i) can = inr can.in_form

  deeper : (c : CaseState) (s : List Term) (way : Bool) → Belongs root c → length (decided c.decisions s way) ≤ c.moves + 1
  deeper c s way b = let m = b.depth in omega (arith, m, length-append c.decisions (record { poly = s; zero = way } ∷ []))

  -- the decisions after one that is not zero, and units under them
  nonzero_units : (c : CaseState) (s : List Term) → Belongs root c → IsCondition s → (p : List Term) → IsUnit (known c) p → IsUnit (conditions (decided c.decisions s false)) p
  nonzero_units c s b n p u = subst (λ ns. IsUnit ns p) (sym (conditions_nonzero c.decisions s)) (unit_more (known c) s p b.conditions n u)

  zero_units : (c : CaseState) (s p : List Term) → IsUnit (known c) p → IsUnit (conditions (decided c.decisions s true)) p
  zero_units c s p u = subst (λ ns. IsUnit ns p) (sym (conditions_zero c.decisions s)) u

  old_or_new : (ds : List Decision) (s : List Term) (way : Bool) (P : Decision → Type 0) → P (record { poly = s; zero = way }) → (j : ℕ) (d : Decision) → slice_get (decided ds s way) j ≡ Some d → (slice_get ds j ≡ Some d) ⊎ P d
  old_or_new ds s way P h j d is = each (before_or_last ds (record { poly = s; zero = way }) j d is)
    where
      each : (slice_get ds j ≡ Some d) ⊎ IsLast ds (record { poly = s; zero = way }) j d → (slice_get ds j ≡ Some d) ⊎ P d
      each (inl e) = inl e
      each (inr e) = inr (subst P e.same h)

  pub nonzero_belongs : (c : CaseState) (s : List Term) (d : CaseState) → IsCondition s → IsNonzeroBranch c s d → Belongs root c → Belongs root d
  unfolding IsStrictlySortedBy
  nonzero_belongs c s d n r b = subst (Belongs root) (sym r.is)
      (belongs_by after run.fine
      (every_all_added (IsDerived root ds lines) r.cleared [] (all_map (IsDerived root ds lines) (λ (e : Equation). e.poly ≢ [] → IsDerived root ds lines e) r.cleared (λ e x z. x) run.derived) tt)
      (every_all_added (λ (e : Equation). e.poly ≢ []) r.cleared [] (all_map (IsDerived root ds lines) (λ (e : Equation). e.poly ≢ [] → e.poly ≢ []) r.cleared (λ e x z. z) run.derived) tt)
      (ascend_all_added r.cleared [] no_ascent)
      recovered conditions_are (deeper c s false b))
    where
      ds : List Decision
      ds = decided c.decisions s false

      more : List Line
      more = r.strips ++ r.clears

      lines : List Line
      lines = c.lines ++ more

      after : CaseState
      after = record { decisions = ds; equations = all_added r.cleared []; lines = lines; moves = c.moves + 1 }

      no_ascent : Ascend []
      no_ascent = tt

      start : AllByRecursion (IsDerived root ds c.lines) c.equations
      start = all_map (IsDerived root c.decisions c.lines) (IsDerived root ds c.lines) c.equations (λ e x. record { item = item_decisions root c.decisions (record { poly = s; zero = false } ∷ []) c.lines e.item e.poly x.item; poly = x.poly; primitive = x.primitive }) (derived c b)

      old : AreFine root ds c.lines
      old = fine_decisions root c.decisions (record { poly = s; zero = false } ∷ []) c.lines (nonzero_units c s b n) (fine c b)

      strip : DerivesAll root ds c.lines c.equations r.strips r.stripped
      strip = stripped_derive root ds (length c.lines) c.equations r.strips r.stripped c.lines refl old start r.are_stripped

      clear : DerivesAll root ds (c.lines ++ r.strips) r.stripped r.clears r.cleared
      clear = cleared_derive root ds (conditions ds) (length c.lines + length r.strips) r.stripped r.clears r.cleared (c.lines ++ r.strips) (sym (length-append c.lines r.strips)) (own_conditions ds) strip.fine strip.derived r.are_cleared

      run : DerivesAll root ds c.lines c.equations more r.cleared
      run = derive_then root ds c.lines c.equations r.strips r.stripped r.clears r.cleared strip clear

      cleared_stands : AllByRecursion (λ (e : Equation). IsRecovered root ds (lines ++ []) (polys after) (length c.lines + length more) e.poly) r.cleared
      cleared_stands = by r.cleared (λ p h. own_all_added p r.cleared [] h)
        where
          by : (es : List Equation) → ((p : List Term) → Stands p es → (p ≡ []) ⊎ Stands p (all_added r.cleared [])) → AllByRecursion (λ (e : Equation). IsRecovered root ds (lines ++ []) (polys after) (length c.lines + length more) e.poly) es
          by [] h = tt
          by (e ∷ es) h = (given_stands ds (lines ++ []) (all_added r.cleared []) (length c.lines + length more) e.poly (h e.poly (inl refl)), by es (λ p g. h p (inr g)))

      back : AllByRecursion (λ (e : Equation). IsRecovered root ds lines (polys after) (length c.lines) e.poly) c.equations
      back = subst (λ xs. AllByRecursion (λ (e : Equation). IsRecovered root ds xs (polys after) (length c.lines) e.poly) c.equations) (append-nil lines) (run.back [] (polys after) cleared_stands)

      each : (p : List Term) → Contains (polys c) p → IsRecovered root ds lines (polys after) (length c.lines) p
      each p m = by c.equations back (contains_stands p c.equations m)
        where
          by : (es : List Equation) → AllByRecursion (λ (e : Equation). IsRecovered root ds lines (polys after) (length c.lines) e.poly) es → Stands p es → IsRecovered root ds lines (polys after) (length c.lines) p
          by [] h x = absurd x
          by (e ∷ es) h (inl x) = subst (IsRecovered root ds lines (polys after) (length c.lines)) x h.0
          by (e ∷ es) h (inr x) = by es h.1 x

      recovered : AllRecovered root ds lines (polys after)
      recovered = all_recovered c.decisions (record { poly = s; zero = false } ∷ []) c.lines more (polys c) (polys after) (nonzero_units c s b n) each
          (λ j d is z. skip d z (old_or_new c.decisions s false (λ (d : Decision). d.zero ≡ false) refl j d is)) b.recovered
        where
          skip : {A B : Type 0} → (d : Decision) → d.zero ≡ true → A ⊎ (d.zero ≡ false) → A ⊎ B
          skip d z (inl a) = inl a
          skip d z (inr f) = absurd (cc (sym z ∙ f))

      conditions_are : All IsCondition (conditions ds)
      conditions_are = subst (All IsCondition) (sym (conditions_nonzero c.decisions s)) (All-append IsCondition (known c) (s ∷ []) b.conditions (All-cons IsCondition s [] n (All-nil IsCondition)))

  -- s as an equation after the decision that it is zero
  zero_derived : (c : CaseState) (s : List Term) (ls : List Line) → Belongs root c → IsPoly s → IsPrimitive s → IsDerived root (decided c.decisions s true) (c.lines ++ ls) (zero_equation c s)
  zero_derived c s ls b h i = record {
    item = item_lines root (decided c.decisions s true) c.lines ls (item_of s (item.Decision (length c.decisions)) c.equations) s
        (item_of_is (λ i. item_poly root (decided c.decisions s true) c.lines i ≡ Some s) s (item.Decision (length c.decisions)) c.equations
        (ap zero_poly (at_seam c.decisions (record { poly = s; zero = true }) []))
        (all_map (IsDerived root c.decisions c.lines) (λ (e : Equation). e.poly ≡ s → item_poly root (decided c.decisions s true) c.lines e.item ≡ Some s) c.equations
        (λ e x g. subst (λ p. item_poly root (decided c.decisions s true) c.lines e.item ≡ Some p) g (item_decisions root c.decisions (record { poly = s; zero = true } ∷ []) c.lines e.item e.poly x.item)) (derived c b)));
    poly = h;
    primitive = i;
  }

  zero_start : (c : CaseState) (s : List Term) (ls : List Line) → Belongs root c → AllByRecursion (IsDerived root (decided c.decisions s true) (c.lines ++ ls)) c.equations
  zero_start c s ls b = all_map (IsDerived root c.decisions c.lines) (IsDerived root (decided c.decisions s true) (c.lines ++ ls)) c.equations
      (λ e x. derived_lines root (decided c.decisions s true) c.lines ls e (record { item = item_decisions root c.decisions (record { poly = s; zero = true } ∷ []) c.lines e.item e.poly x.item; poly = x.poly; primitive = x.primitive })) (derived c b)

  zero_fine : (c : CaseState) (s : List Term) → Belongs root c → AreFine root (decided c.decisions s true) c.lines
  zero_fine c s b = fine_decisions root c.decisions (record { poly = s; zero = true } ∷ []) c.lines (zero_units c s) (fine c b)

  zero_conditions : (c : CaseState) (s : List Term) → Belongs root c → All IsCondition (conditions (decided c.decisions s true))
  zero_conditions c s b = subst (All IsCondition) (sym (conditions_zero c.decisions s)) b.conditions

  zero_recovered : (c : CaseState) (s : List Term) (more : List Line) (es : List Equation) → Belongs root c → Stands s es → ((p : List Term) → Contains (polys c) p → IsRecovered root (decided c.decisions s true) (c.lines ++ more) (polys_of es) (length c.lines) p) → AllRecovered root (decided c.decisions s true) (c.lines ++ more) (polys_of es)
  zero_recovered c s more es b h each = all_recovered c.decisions (record { poly = s; zero = true } ∷ []) c.lines more (polys c) (polys_of es) (zero_units c s) each
      (λ j d is z. old_or_new c.decisions s true (λ (d : Decision). IsRecovered root (decided c.decisions s true) (c.lines ++ more) (polys_of es) 0 d.poly) (is_given (stands_contains s es h)) j d is) b.recovered

  stands_new : (c : CaseState) (s : List Term) (es : List Equation) → s ≢ [] → Stands s (added (zero_equation c s) es)
  stands_new c s es z = by (own_added (zero_equation c s) es)
    where
      by : (s ≡ []) ⊎ Stands s (added (zero_equation c s) es) → Stands s (added (zero_equation c s) es)
      by (inl e) = absurd (z e)
      by (inr h) = h

  pub zero_belongs : (c : CaseState) (s : List Term) (d : CaseState) → IsPoly s → IsPrimitive s → s ≢ [] → IsZeroBranch c s d → Belongs root c → Belongs root d
  zero_belongs c s d h i z r b = subst (Belongs root) (sym r)
      (belongs_by after (zero_fine c s b)
      (every_added (IsDerived root ds c.lines) e c.equations (λ z. here) (subst (λ ls. AllByRecursion (IsDerived root ds ls) c.equations) (append-nil c.lines) (zero_start c s [] b)))
      (every_added (λ (e : Equation). e.poly ≢ []) e c.equations (λ z. z) (nonzero_of c b))
      (ascend_added e c.equations b.ascending.ascending)
      (subst (λ ls. AllRecovered root ds ls (polys after)) (append-nil c.lines)
      (zero_recovered c s [] (added e c.equations) b (stands_new c s c.equations z) (λ p m. is_given (stands_contains p (added e c.equations) (stands_added p e c.equations (contains_stands p c.equations m))))))
      (zero_conditions c s b) (deeper c s true b))
    where
      ds : List Decision
      ds = decided c.decisions s true

      e : Equation
      e = zero_equation c s

      after : CaseState
      after = record { decisions = ds; equations = added e c.equations; lines = c.lines; moves = c.moves + 1 }

      here : IsDerived root ds c.lines e
      here = subst (λ ls. IsDerived root ds ls e) (append-nil c.lines) (zero_derived c s [] b h i)

  pub tail_belongs : (c : CaseState) (s : List Term) (k : ℕ) (d : CaseState) → k < count c → IsPoly s → IsPrimitive s → s ≢ [] → IsTailBranch c s k d → Belongs root c → Belongs root d
  tail_belongs c s k d place h i z r b = subst (Belongs root) (sym r.is)
      (belongs_by after step.fine
      (every_added (IsDerived root ds lines) r.rest left (λ z. step.derived) (every_added (IsDerived root ds lines) e (remove c.equations k) (λ z. zero_derived c s (line ∷ r.lines) b h i) (every_removed (IsDerived root ds lines) c.equations k (zero_start c s (line ∷ r.lines) b))))
      (every_added (λ (e : Equation). e.poly ≢ []) r.rest left (λ z. z) (every_added (λ (e : Equation). e.poly ≢ []) e (remove c.equations k) (λ z. z) (every_removed (λ (e : Equation). e.poly ≢ []) c.equations k (nonzero_of c b))))
      (ascend_added r.rest left (ascend_added e (remove c.equations k) (ascend_removed c.equations k b.ascending.ascending)))
      (zero_recovered c s (line ∷ r.lines) (added r.rest left) b stands each)
      (zero_conditions c s b) (deeper c s true b))
    where
      ds : List Decision
      ds = decided c.decisions s true

      e : Equation
      e = zero_equation c s

      line : Line
      line = step_line (equation c k).item e.item r.step

      lines : List Line
      lines = c.lines ++ line ∷ r.lines

      left : List Equation
      left = added e (remove c.equations k)

      after : CaseState
      after = stepped c ds left (line ∷ r.lines) r.rest

      sound_at : IsSound (equation c k)
      sound_at = within_at IsSound c.equations k place (regular root c b)

      initial_some : leading_in r.tail.v (poly c k) ≢ []
      initial_some = leading_nonzero r.tail.v (poly c k) sound_at.nonzero

      factor : r.tail.u ≢ []
      factor = factor_nonzero (known c) (leading_in r.tail.v (poly c k)) r.tail.u s (IsPoly-coefficient_of_power r.tail.v (degree_in r.tail.v (poly c k)) (poly c k) sound_at.poly) initial_some r.tail.initial.cleared

      from_is : item_poly root ds c.lines (equation c k).item ≡ Some (poly c k)
      from_is = item_decisions root c.decisions (record { poly = s; zero = true } ∷ []) c.lines (equation c k).item (poly c k) (b.items k place)

      by_is : item_poly root ds c.lines e.item ≡ Some s
      by_is = subst (λ ls. item_poly root ds ls e.item ≡ Some s) (append-nil c.lines) (zero_derived c s [] b h i).item

      is_step : IsStep (conditions ds) (poly c k) s r.step
      is_step = subst (λ ns. IsStep ns (poly c k) s r.step) (sym (conditions_zero c.decisions s)) r.tail.tail.is_step

      clearing : IsClearing (conditions ds) (length c.lines + 1) (made r.step.r (length c.lines)) r.lines r.rest
      clearing = subst (λ ns. IsClearing ns (length c.lines + 1) (made r.step.r (length c.lines)) r.lines r.rest) (sym (conditions_zero c.decisions s)) r.clearing

      step : IsStepped ds c.lines (poly c k) s line r.lines r.rest
      step = stepped_by ds c.lines (equation c k).item e.item (poly c k) s r.step r.lines r.rest (zero_fine c s b) from_is by_is
          (subst (λ a. a ≢ []) (sym r.tail.tail.a_is) (power_nonzero r.tail.v _ r.tail.u factor)) is_step clearing

      stands : Stands s (added r.rest left)
      stands = stands_added s r.rest left (stands_new c s (remove c.equations k) z)

      unit : IsUnit (conditions ds) line.l
      unit = subst (IsUnit (conditions ds)) (sym r.tail.tail.l_is) (inl (unit_one (conditions ds)))

      back : IsRecovered root ds lines (polys after) (length c.lines) (poly c k)
      back = step.back (polys after) unit (stands_contains s (added r.rest left) stands) (λ n. given_stands ds lines (added r.rest left) n r.rest.poly (own_added r.rest left))

      each : (x : List Term) → Contains (polys c) x → IsRecovered root ds lines (polys after) (length c.lines) x
      each x m = by (stands_or_removed x c.equations k (contains_stands x c.equations m))
        where
          by : (poly c k ≡ x) ⊎ Stands x (remove c.equations k) → IsRecovered root ds lines (polys after) (length c.lines) x
          by (inl g) = subst (IsRecovered root ds lines (polys after) (length c.lines)) g back
          by (inr g) = given_stands ds lines (added r.rest left) (length c.lines) x (inr (stands_added x r.rest left (stands_added x e (remove c.equations k) g)))
