-- Runs of lines that lead from equations to others and back.
use Rattle.std.specs.Prelude.{◌≡◌, ℕ, suc, ◌+◌, List, [], ◌∷◌, ◌++◌, length, Contains, refl}
use mathlib.Core.Logic.{inl}
use Rattle.std.proofs.Common.{arith, subst, sym, ◌∙◌, ap, append_assoc, append-nil, length-append}
use Rattle.std.specs.List.{AllByRecursion}
use Rattle.std.specs.declared.option.Option.TheVariants.{Some}
use Rattle.sparse_poly.specs.declared.Term.{Term}
use Rattle.sparse_poly.specs.Contributions.{IsPoly}
use Rattle.sparse_poly.specs.Primitive.{IsPrimitive}
use Rattle.sparse_poly.specs.Units.{IsStripped}
use Rattle.sparse_poly.specs.Clearing.{IsUnit}
use Rattle.sparse_poly.proofs.Descending.{all_map}
use Rattle.sparse_poly.proofs.UnitOne.{unit_one}
use Rattle.derive_lines.specs.declared.parts.Decision.{Decision}
use Rattle.derive_lines.specs.declared.parts.Line.{Line}
use Rattle.derive_lines.specs.declared.parts.Way.TheVariants.{Fwd}
use Rattle.derive_lines.specs.Lines.{conditions, item_poly, made_poly, Refers, IsGoodLine}
use Rattle.derive_lines.specs.Recovery.{IsRecovered, is_zero, by_line}
use Rattle.case_rules.specs.declared.equation.Equation.{Equation}
use Rattle.case_rules.specs.Clearings as clearings
use Rattle.case_rules.specs.Clearings.{made, quotient_line, Divides, IsClearing, AreCleared, AreStripped}
use Rattle.case_rules.proofs.Items.{AreFine, item_lines, fine_more, earlier, at_seam, front_of_seam}
use Rattle.case_rules.proofs.MoreConditions.{factor_unit, condition_unit}
use Rattle.case_rules.proofs.Sides.{strip_sides, division_sides}
use Rattle.case_rules.proofs.PrimitiveQuotients.{primitive_quotient}

-- an equation of a derivation: it is that of its item, and a primitive polynomial
pub record IsDerived (root : List (List Term)) (ds : List Decision) (ls : List Line) (e : Equation) : Type 0 where
  pub item : item_poly root ds ls e.item ≡ Some e.poly
  pub poly : IsPoly e.poly
  pub primitive : IsPrimitive e.poly

module _ (root : List (List Term)) (ds : List Decision) where
  abbrev pub R : List Line → List (List Term) → ℕ → List Term → Type 0
  R ls given n p = IsRecovered root ds ls given n p

  pub derived_lines : (ls more : List Line) (e : Equation) → IsDerived root ds ls e → IsDerived root ds (ls ++ more) e
  derived_lines ls more e h = record { item = item_lines root ds ls more e.item e.poly h.item; poly = h.poly; primitive = h.primitive }

  -- the lines lead from e to f, and back
  pub record Derives (ls : List Line) (e : Equation) (lines : List Line) (f : Equation) : Type 0 where
    pub fine : AreFine root ds (ls ++ lines)
    pub derived : IsDerived root ds (ls ++ lines) f
    pub back : (later : List Line) (given : List (List Term)) → R ((ls ++ lines) ++ later) given (length ls + length lines) f.poly → R ((ls ++ lines) ++ later) given (length ls) e.poly

  pub derives_none : (ls : List Line) (e : Equation) → AreFine root ds ls → IsDerived root ds ls e → Derives ls e [] e
  derives_none ls e h d = record {
    fine = subst (AreFine root ds) (sym (append-nil ls)) h;
    derived = derived_lines ls [] e d;
    back = λ later given r. earlier root ds ((ls ++ []) ++ later) given (length ls) (length ls + length {A = Line} []) e.poly (omega arith) r;
  }

  -- a forward line, whose l is a unit, leads back from what it made and from its p
  pub back_by : (ls : List Line) (line : Line) (later : List Line) (given : List (List Term)) (q p : List Term) → line.way ≡ Fwd → IsUnit (conditions ds) line.l → Refers root ds ls line q p → R (ls ++ line ∷ later) given (length ls + 1) p → R (ls ++ line ∷ later) given (length ls + 1) line.made → R (ls ++ line ∷ later) given (length ls) q
  back_by ls line later given q p way unit refers x y =
      let up = earlier root ds (ls ++ line ∷ later) given (suc (length ls)) (length ls + 1) in
      by_line (omega arith)
      (record { line = line; is = at_seam ls line later; forward = way; unit = unit; refers = subst (λ b. Refers root ds b line q p) (sym (front_of_seam ls (line ∷ later))) refers; made = refl })
      (up p (omega arith) x) (up line.made (omega arith) y)

  -- a line that divides an equation by m
  derives_quotient : (ls : List Line) (e : Equation) (m h : List Term) → AreFine root ds ls → IsDerived root ds ls e → IsGoodLine root ds ls (quotient_line e.item m h) → Refers root ds ls (quotient_line e.item m h) e.poly [] → IsPoly m → IsPoly h → IsPrimitive h → Derives ls e (quotient_line e.item m h ∷ []) (made h (length ls))
  derives_quotient ls e m h fine d good refers i j k = record {
    fine = fine_more root ds ls (quotient_line e.item m h) fine (record { good = good; multiplier = i });
    derived = record { item = ap (λ o. made_poly o) (at_seam ls (quotient_line e.item m h) []); poly = j; primitive = k };
    back = λ later given r.
        let split : (ls ++ quotient_line e.item m h ∷ []) ++ later ≡ ls ++ quotient_line e.item m h ∷ later = append_assoc ls (quotient_line e.item m h ∷ []) later in
        subst (λ xs. R xs given (length ls) e.poly) (sym split) (back_by ls (quotient_line e.item m h) later given e.poly [] refl (inl (unit_one (conditions ds))) refers is_zero (subst (λ xs. R xs given (length ls + 1) h) split r));
  }

  quotient_refers : (ls : List Line) (e : Equation) (m h : List Term) → IsDerived root ds ls e → Refers root ds ls (quotient_line e.item m h) e.poly []
  quotient_refers ls e m h d = record { from_is = d.item; by_is = refl; by_fits = refl; from_fits = tt }

  derives_division : (ls : List Line) (e : Equation) (n h : List Term) → AreFine root ds ls → IsDerived root ds ls e → Contains (conditions ds) n → Divides n e.poly h → Derives ls e (quotient_line e.item n h ∷ []) (made h (length ls))
  derives_division ls e n h fine d c x =
      let refers = quotient_refers ls e n h d in
      derives_quotient ls e n h fine d
      (record { from = e.poly; by = []; refers = refers; unit = condition_unit (conditions ds) n x.in_form c; sides = division_sides n e.poly h x.in_form.poly x.quotient })
      refers x.in_form.poly x.quotient.poly (primitive_quotient n e.poly h x.in_form x.nonzero d.primitive x.quotient)

  derives_strip : (ls : List Line) (e : Equation) (m r : List Term) → AreFine root ds ls → IsDerived root ds ls e → IsStripped (conditions ds) e.poly m r → Derives ls e (quotient_line e.item m r ∷ []) (made r (length ls))
  derives_strip ls e m r fine d x =
      let refers = quotient_refers ls e m r d in
      derives_quotient ls e m r fine d
      (record { from = e.poly; by = []; refers = refers; unit = factor_unit (conditions ds) m x.factor_poly x.out; sides = strip_sides (conditions ds) e.poly m r d.poly x })
      refers x.factor_poly x.rest_poly x.primitive

  -- one run after another
  pub derives_then : (ls : List Line) (e : Equation) (first : List Line) (f : Equation) (more : List Line) (g : Equation) → Derives ls e first f → Derives (ls ++ first) f more g → Derives ls e (first ++ more) g
  derives_then ls e first f more g a b = record {
    fine = subst (AreFine root ds) (append_assoc ls first more) b.fine;
    derived = subst (λ xs. IsDerived root ds xs g) (append_assoc ls first more) b.derived;
    back = λ later given r.
        let one : ((ls ++ first) ++ more) ++ later ≡ (ls ++ (first ++ more)) ++ later = ap (λ xs. xs ++ later) (append_assoc ls first more) in
        let two : ((ls ++ first) ++ more) ++ later ≡ (ls ++ first) ++ (more ++ later) = append_assoc (ls ++ first) more later in
        let end : length (ls ++ first) + length more ≡ length ls + length (first ++ more) = omega (arith, length-append ls first, length-append first more) in
        let low : R (((ls ++ first) ++ more) ++ later) given (length (ls ++ first) + length more) g.poly = subst (λ n. R (((ls ++ first) ++ more) ++ later) given n g.poly) (sym end) (subst (λ xs. R xs given (length ls + length (first ++ more)) g.poly) (sym one) r) in
        let mid : R ((ls ++ first) ++ (more ++ later)) given (length (ls ++ first)) f.poly = subst (λ xs. R xs given (length (ls ++ first)) f.poly) two (b.back later given low) in
        let up : R ((ls ++ first) ++ (more ++ later)) given (length ls) e.poly = a.back (more ++ later) given (subst (λ n. R ((ls ++ first) ++ (more ++ later)) given n f.poly) (length-append ls first) mid) in
        subst (λ xs. R xs given (length ls) e.poly) (sym two ∙ one) up;
  }

  -- an equation that is cleared
  pub cleared_derives : (ns : List (List Term)) (k : ℕ) (e : Equation) (lines : List Line) (f : Equation) (ls : List Line) → k ≡ length ls → AllByRecursion (Contains (conditions ds)) ns → AreFine root ds ls → IsDerived root ds ls e → IsClearing ns k e lines f → Derives ls e lines f
  cleared_derives ns k e lines f ls s c fine d (clearings.IsClearing.end i j) = derives_none ls e fine d
  cleared_derives ns k e lines f ls s c fine d (clearings.IsClearing.next n ns' i j lines' f' none rest) = cleared_derives ns' k e lines f ls s c.1 fine d rest
  cleared_derives ns k e lines f ls s c fine d (clearings.IsClearing.once n ns' i j h lines' f' x rest) =
      let first : Derives ls e (quotient_line e.item n h ∷ []) (made h k) = subst (λ m. Derives ls e (quotient_line e.item n h ∷ []) (made h m)) (sym s) (derives_division ls e n h fine d c.0 x) in
      let after : List Line = ls ++ quotient_line e.item n h ∷ [] in
      let long : k + 1 ≡ length after = omega (arith, s, length-append ls (quotient_line e.item n h ∷ [])) in
      derives_then ls e (quotient_line e.item n h ∷ []) (made h k) lines' f first (cleared_derives (n ∷ ns') (k + 1) (made h k) lines' f after long c first.fine first.derived rest)

  abbrev pub AllAt : List Line → List (List Term) → ℕ → List Equation → Type 0
  AllAt ls given n es = AllByRecursion (λ (e : Equation). R ls given n e.poly) es

  -- runs that lead from equations to others, and back
  pub record DerivesAll (ls : List Line) (es : List Equation) (lines : List Line) (fs : List Equation) : Type 0 where
    pub fine : AreFine root ds (ls ++ lines)
    pub derived : AllByRecursion (IsDerived root ds (ls ++ lines)) fs
    pub back : (later : List Line) (given : List (List Term)) → AllByRecursion (λ (f : Equation). R ((ls ++ lines) ++ later) given (length ls + length lines) f.poly) fs → AllByRecursion (λ (e : Equation). R ((ls ++ lines) ++ later) given (length ls) e.poly) es

  derives_end : (ls : List Line) → AreFine root ds ls → DerivesAll ls [] [] []
  derives_end ls h = record { fine = subst (AreFine root ds) (sym (append-nil ls)) h; derived = tt; back = λ later given r. tt }

  all_derived : (ls more : List Line) (es : List Equation) → AllByRecursion (IsDerived root ds ls) es → AllByRecursion (IsDerived root ds (ls ++ more)) es
  all_derived ls more es h = all_map (IsDerived root ds ls) (IsDerived root ds (ls ++ more)) es (derived_lines ls more) h

  derives_next : (ls : List Line) (e : Equation) (first : List Line) (f : Equation) (es : List Equation) (lines : List Line) (fs : List Equation) → Derives ls e first f → DerivesAll (ls ++ first) es lines fs → DerivesAll ls (e ∷ es) (first ++ lines) (f ∷ fs)
  derives_next ls e first f es lines fs a b = record {
    fine = subst (AreFine root ds) (append_assoc ls first lines) b.fine;
    derived = (subst (λ xs. IsDerived root ds xs f) (append_assoc ls first lines) (derived_lines (ls ++ first) lines f a.derived), subst (λ xs. AllByRecursion (IsDerived root ds xs) fs) (append_assoc ls first lines) b.derived);
    back = λ later given r.
        let one : ((ls ++ first) ++ lines) ++ later ≡ (ls ++ (first ++ lines)) ++ later = ap (λ xs. xs ++ later) (append_assoc ls first lines) in
        let two : ((ls ++ first) ++ lines) ++ later ≡ (ls ++ first) ++ (lines ++ later) = append_assoc (ls ++ first) lines later in
        let end : length (ls ++ first) + length lines ≡ length ls + length (first ++ lines) = omega (arith, length-append ls first, length-append first lines) in
        let low : AllAt (((ls ++ first) ++ lines) ++ later) given (length (ls ++ first) + length lines) fs = subst (λ n. AllAt (((ls ++ first) ++ lines) ++ later) given n fs) (sym end) (subst (λ xs. AllAt xs given (length ls + length (first ++ lines)) fs) (sym one) r.1) in
        let rest : AllAt ((ls ++ (first ++ lines)) ++ later) given (length (ls ++ first)) es = subst (λ xs. AllAt xs given (length (ls ++ first)) es) one (b.back later given low) in
        let mid : R ((ls ++ (first ++ lines)) ++ later) given (length ls + length first) f.poly = earlier root ds ((ls ++ (first ++ lines)) ++ later) given (length ls + length first) (length ls + length (first ++ lines)) f.poly (omega (arith, length-append first lines)) r.0 in
        let up : R ((ls ++ first) ++ (lines ++ later)) given (length ls) e.poly = a.back (lines ++ later) given (subst (λ xs. R xs given (length ls + length first) f.poly) (sym one ∙ two) mid) in (
          subst (λ xs. R xs given (length ls) e.poly) (sym two ∙ one) up,
          all_map (λ (x : Equation). R ((ls ++ (first ++ lines)) ++ later) given (length (ls ++ first)) x.poly) (λ (x : Equation). R ((ls ++ (first ++ lines)) ++ later) given (length ls) x.poly) es (λ x h. earlier root ds ((ls ++ (first ++ lines)) ++ later) given (length ls) (length (ls ++ first)) x.poly (omega (arith, length-append ls first)) h) rest,
        );
  }

  pub cleared_derive : (units : List (List Term)) (k : ℕ) (es : List Equation) (lines : List Line) (fs : List Equation) (ls : List Line) → k ≡ length ls → AllByRecursion (Contains (conditions ds)) units → AreFine root ds ls → AllByRecursion (IsDerived root ds ls) es → AreCleared units k es lines fs → DerivesAll ls es lines fs
  cleared_derive units k es lines fs ls s c fine d (clearings.AreCleared.end i) = derives_end ls fine
  cleared_derive units k es lines fs ls s c fine d (clearings.AreCleared.next i e es' first f lines' fs' x rest) =
      let a : Derives ls e first f = cleared_derives units k e first f ls s c fine d.0 x in
      let long : k + length first ≡ length (ls ++ first) = omega (arith, s, length-append ls first) in
      derives_next ls e first f es' lines' fs' a (cleared_derive units (k + length first) es' lines' fs' (ls ++ first) long c a.fine (all_derived ls first es' d.1) rest)

  pub stripped_derive : (k : ℕ) (es : List Equation) (lines : List Line) (fs : List Equation) (ls : List Line) → k ≡ length ls → AreFine root ds ls → AllByRecursion (IsDerived root ds ls) es → AreStripped (conditions ds) k es lines fs → DerivesAll ls es lines fs
  stripped_derive k es lines fs ls s fine d (clearings.AreStripped.end i) = derives_end ls fine
  stripped_derive k es lines fs ls s fine d (clearings.AreStripped.same i e es' m lines' fs' x rest) =
      derives_next ls e [] e es' lines' fs' (derives_none ls e fine d.0)
      (subst (λ xs. DerivesAll xs es' lines' fs') (sym (append-nil ls)) (stripped_derive k es' lines' fs' ls s fine d.1 rest))
  stripped_derive k es lines fs ls s fine d (clearings.AreStripped.changed i e es' m r lines' fs' x differs rest) =
      let line : Line = quotient_line e.item m r in
      let a : Derives ls e (line ∷ []) (made r (length ls)) = derives_strip ls e m r fine d.0 x in
      let long : k + 1 ≡ length (ls ++ line ∷ []) = omega (arith, s, length-append ls (line ∷ [])) in
      subst (λ n. DerivesAll ls (e ∷ es') (line ∷ lines') (made r n ∷ fs')) (sym s)
      (derives_next ls e (line ∷ []) (made r (length ls)) es' lines' fs' a (stripped_derive (k + 1) es' lines' fs' (ls ++ line ∷ []) long a.fine (all_derived ls (line ∷ []) es' d.1) rest))

  pub derive_then : (ls : List Line) (es : List Equation) (first : List Line) (fs : List Equation) (more : List Line) (gs : List Equation) → DerivesAll ls es first fs → DerivesAll (ls ++ first) fs more gs → DerivesAll ls es (first ++ more) gs
  derive_then ls es first fs more gs a b = record {
    fine = subst (AreFine root ds) (append_assoc ls first more) b.fine;
    derived = subst (λ xs. AllByRecursion (IsDerived root ds xs) gs) (append_assoc ls first more) b.derived;
    back = λ later given r.
        let one : ((ls ++ first) ++ more) ++ later ≡ (ls ++ (first ++ more)) ++ later = ap (λ xs. xs ++ later) (append_assoc ls first more) in
        let two : ((ls ++ first) ++ more) ++ later ≡ (ls ++ first) ++ (more ++ later) = append_assoc (ls ++ first) more later in
        let end : length (ls ++ first) + length more ≡ length ls + length (first ++ more) = omega (arith, length-append ls first, length-append first more) in
        let low : AllAt (((ls ++ first) ++ more) ++ later) given (length (ls ++ first) + length more) gs = subst (λ n. AllAt (((ls ++ first) ++ more) ++ later) given n gs) (sym end) (subst (λ xs. AllAt xs given (length ls + length (first ++ more)) gs) (sym one) r) in
        let mid : AllAt ((ls ++ first) ++ (more ++ later)) given (length (ls ++ first)) fs = subst (λ xs. AllAt xs given (length (ls ++ first)) fs) two (b.back later given low) in
        let up : AllAt ((ls ++ first) ++ (more ++ later)) given (length ls) es = a.back (more ++ later) given (subst (λ n. AllAt ((ls ++ first) ++ (more ++ later)) given n fs) (length-append ls first) mid) in
        subst (λ xs. AllAt xs given (length ls) es) (sym two ∙ one) up;
  }
