-- A move that is due can be made.
use Rattle.std.specs.Prelude.{◌≡◌, ◌≢◌, ◌<◌, ◌≤◌, ◌⊎◌, ◌^◌, ℕ, zero, suc, max, Bool, true, false, if◌then◌else◌, ◌==◌, ℤ, pos, negsuc, nat_lt, List, [], ◌∷◌, refl}
use mathlib.Core.Logic.{inl, inr}
use Rattle.std.proofs.Common.{arith, subst, sym, ◌∙◌, ap}
use Rattle.std.proofs.lemmas.Int.{ints}
use Rattle.std.proofs.lemmas.Bool.Decides.{eqb_tells}
use Rattle.std.proofs.lemmas.Nat.Gcd.{dvd_refl}
use Rattle.std.specs.List.{AllByRecursion}
use Rattle.std.specs.declared.option.Option.{Option}
use Rattle.std.specs.declared.option.Option.TheVariants.{None, Some}
use Rattle.monomial.specs.Monomials.{exponent, top, IsPowers, IsMonomial}
use Rattle.sparse_poly.specs.declared.Term.{Term}
use Rattle.sparse_poly.specs.Polynomials.{constant, variable}
use Rattle.sparse_poly.specs.Contributions.{higher, IsPoly}
use Rattle.sparse_poly.specs.Primitive.{IsPrimitive}
use Rattle.sparse_poly.specs.Reads.{degree_in, main_variable, leading_in}
use Rattle.sparse_poly.specs.Units.{IsUnitTerm}
use Rattle.sparse_poly.specs.Clearing as clearing
use Rattle.sparse_poly.specs.Clearing.{IsDividedBy, IsInForm, IsDividedOut, IsCleared, IsUnit}
use Rattle.sparse_poly.proofs.Clearings.{cleared_polys}
use Rattle.sparse_poly.proofs.InForm.{one_size}
use Rattle.sparse_poly.proofs.Powers.{IsPoly-coefficient_of_power}
use Rattle.char_set.specs.Triangular.{initial, initial_in, IsDecided}
use Rattle.derive_lines.specs.Refuting.{IsNonzeroConstant}
use Rattle.case_rules.specs.declared.moves.Move.{Move}
use Rattle.case_rules.specs.declared.moves.Move.TheVariants.{Reduce, Split}
use Rattle.case_rules.specs.Cases.{CaseState, known, equation, poly, count}
use Rattle.case_rules.specs.Branches.{IsTail, CanReduce, CanSplit, CanMake}
use Rattle.case_rules.specs.Rules.{IsLinearMove, IsFactorMove, IsPairReduction, IsInitialSplit, IsSplitOn, IsMove, linear, factor, pair_reduction, pair_split, initial_split}
use Rattle.case_rules.specs.Belonging.{Belongs}
use Rattle.case_rules.proofs.Belonging.{regular}
use Rattle.case_rules.proofs.MoreConditions.{factor_unit}
use Rattle.case_rules.proofs.Nonzero.{leading_nonzero, rest_nonzero}
use Rattle.case_rules.proofs.PrimitiveQuotients.{primitive_quotient}
use Rattle.case_rules.proofs.Regular.{IsSound, within_at, constant_of}

-- a polynomial that a decision may have
pub record IsWhole (p : List Term) : Type 0 where
  pub poly : IsPoly p
  pub primitive : IsPrimitive p
  pub nonzero : p ≢ []

-- the initial of what has a main variable
initial_is : (p : List Term) (v : ℕ) → main_variable p ≡ Some v → initial p ≡ leading_in v p
initial_is p v e = ap (λ o. initial_in o p) e

pub leading_poly : (v : ℕ) (p : List Term) → IsPoly p → IsPoly (leading_in v p)
leading_poly v p h = IsPoly-coefficient_of_power v (degree_in v p) p h

some_poly : (p : List Term) (v : ℕ) → main_variable p ≡ Some v → p ≢ []
some_poly p v e z = cc (sym (ap main_variable z) ∙ e)

constant_term : (units : List (List Term)) (k : ℤ) → k ≢ pos 0 → IsUnitTerm units (constant k)
constant_term units (pos zero) n = absurd (n refl)
constant_term units (pos (suc k)) n = tt
constant_term units (negsuc k) n = tt

constant_unit : (units : List (List Term)) (p : List Term) → IsPoly p → IsNonzeroConstant p → IsUnit units p
constant_unit units p h k = factor_unit units p h (subst (IsUnitTerm units) (sym k.is) (constant_term units k.number k.nonzero))

-- the degree in the main variable
main_degree : (p : List Term) (v : ℕ) → AllByRecursion (λ (t : Term). IsMonomial t.monomial) p → main_variable p ≡ Some v → 1 ≤ degree_in v p
main_degree [] v h e = cc e
main_degree (t ∷ ts) v h e = each (top t.monomial) (main_variable ts) refl e (main_degree ts v h.1)
  where
    big : (a b : ℕ) → (1 ≤ a) ⊎ (1 ≤ b) → 1 ≤ max a b
    big a b (inl l) = grind arith
    big a b (inr l) = grind arith

    own : top t.monomial ≡ Some v → 1 ≤ exponent t.monomial v
    own g = by t.monomial h.0.powers g
      where
        by : (m : List (ℕ × ℕ)) → IsPowers m → top m ≡ Some v → 1 ≤ exponent m v
        by [] i f = cc f
        by (q ∷ qs) i f = at (eqb_tells q.0 v)
          where
            at : ((q.0 == v) ≡ true) × (q.0 ≡ v) ⊎ ((q.0 == v) ≡ false) × (q.0 ≢ v) → 1 ≤ exponent (q ∷ qs) v
            at (inl x) = let l : 0 < q.1 = i.0 in omega (arith, l, ap {B = ℕ} (λ b. if b then q.1 else exponent qs v) x.0)
            at (inr x) = absurd (x.1 (cc f))

    each : (a b : Option ℕ) → top t.monomial ≡ a → higher a b ≡ Some v → (b ≡ Some v → 1 ≤ degree_in v ts) → 1 ≤ degree_in v (t ∷ ts)
    each None b f g r = let l = r g in big (exponent t.monomial v) (degree_in v ts) (inr l)
    each (Some u) None f g r = let l = own (f ∙ g) in big (exponent t.monomial v) (degree_in v ts) (inl l)
    each (Some u) (Some w) f g r = other (nat_lt u w) refl g
      where
        other : (b : Bool) → nat_lt u w ≡ b → Some (if b then w else u) ≡ Some v → 1 ≤ degree_in v (t ∷ ts)
        other true x y = let l = r y in big (exponent t.monomial v) (degree_in v ts) (inr l)
        other false x y = let l = own (f ∙ y) in big (exponent t.monomial v) (degree_in v ts) (inl l)

-- a variable that divides a polynomial is one
variable_whole : (v : ℕ) (p : List Term) → IsPoly p → p ≢ [] → IsDividedBy v p → IsWhole (variable v)
variable_whole v [] h z d = absurd (z refl)
variable_whole v (t ∷ ts) h z d = record {
  poly = record { falling = (tt, tt); monomials = (record { powers = (omega arith, tt, tt); in_range = ((below t.monomial h.monomials.0.in_range d.0, omega arith), tt) }, tt); apart = ((λ e. omega (arith, ints, e)), tt); in_range = (omega arith, tt) };
  primitive = (omega (arith, ints), λ e a. one_size e a.0);
  nonzero = λ e. cc e;
}
  where
    below : (m : List (ℕ × ℕ)) → AllByRecursion (λ (q : ℕ × ℕ). (q.0 < 2 ^ 32) × (q.1 ≤ 65535)) m → 0 < exponent m v → v < 2 ^ 32
    below [] a l = absurd (omega (arith, l))
    below (q ∷ qs) a l = at (eqb_tells q.0 v) (below qs a.1)
      where
        at : ((q.0 == v) ≡ true) × (q.0 ≡ v) ⊎ ((q.0 == v) ≡ false) × (q.0 ≢ v) → (0 < exponent qs v → v < 2 ^ 32) → v < 2 ^ 32
        at (inl x) r = subst (λ k. k < 2 ^ 32) x.1 a.0.0
        at (inr x) r = r (omega (arith, l, ap {B = ℕ} (λ b. if b then q.1 else exponent qs v) x.0))

-- what is left of what is cleared is primitive
divided_primitive : (units ns : List (List Term)) (f g e h : List Term) → IsDividedOut units ns f g e h → IsPrimitive g → IsPrimitive h
divided_primitive units ns f g e h (clearing.IsDividedOut.finished) p = p
divided_primitive units (n ∷ ns) f g e h (clearing.IsDividedOut.passed none rest) p = divided_primitive units ns f g e h rest p
divided_primitive units (n ∷ ns) f g e h (clearing.IsDividedOut.divided {d = d} {k = k} i rest) p = divided_primitive units (n ∷ ns) d k e h rest (primitive_quotient n g k i.in_form i.nonzero p i.quotient)

rest_whole : (units : List (List Term)) (p f r : List Term) → IsPoly p → p ≢ [] → IsCleared units p f r → IsWhole r
rest_whole units p f r h z c = record {
  poly = (cleared_polys units p f r c).1;
  primitive = divided_primitive units units c.strip_factor c.strip_rest f r c.divided_out c.stripped.primitive;
  nonzero = rest_nonzero units p f r h z c;
}

-- a primitive constant is 1
primitive_one : (k : ℤ) → k ≢ pos 0 → IsPrimitive (constant k) → constant k ≡ constant (pos 1)
primitive_one (pos zero) n h = absurd (n refl)
primitive_one (pos (suc k)) n h = ap (λ m. constant (pos m)) (h.1 (suc k) (dvd_refl (suc k), tt))
primitive_one (negsuc k) n h = let l = h.0 in absurd (omega (arith, ints, l))

-- what is left of an initial that is no unit varies
rest_varied : (units : List (List Term)) (p f r : List Term) → (IsUnit units p → ⊥) → IsWhole r → IsCleared units p f r → main_variable r ≢ None
rest_varied units p f r none w c e =
    let k : IsNonzeroConstant r = constant_of r w.poly w.nonzero e in
    none (inr (record { factor = f; rest = r; cleared = c; member = inl (k.is ∙ primitive_one k.number k.nonzero (subst IsPrimitive k.is w.primitive)) }))

-- what a move is split by
abbrev pub IsGoodMove : Move → Type 0
IsGoodMove (Reduce q p v) = Unit {0}
IsGoodMove (Split by tail) = IsWhole by

module _ (root : List (List Term)) (c : CaseState) (b : Belongs root c) where
  sound_at : (i : ℕ) → i < count c → IsSound (equation c i)
  sound_at i l = within_at IsSound c.equations i l (regular root c b)

  can_linear : (q p v : ℕ) → IsLinearMove c q p v → CanReduce c q p v
  can_linear q p v m = record {
    q_place = m.least_other.has.place;
    p_place = m.least.has.place;
    apart = m.least_other.has.other;
    can = record { occurs = omega (arith, m.linear.degree); below = let l = m.least_other.has.contains in omega (arith, m.linear.degree, l) };
    unit =
        let s = sound_at p m.least.has.place in
        let h : IsPoly (leading_in v (poly c p)) = leading_poly v (poly c p) s.poly in
        constant_unit (known c) (leading_in v (poly c p)) h (constant_of (leading_in v (poly c p)) h (leading_nonzero v (poly c p) s.nonzero) (ap main_variable (sym (initial_is (poly c p) v m.linear.main)) ∙ m.linear.constant));
  }

  can_pair : (q p v : ℕ) → IsPairReduction c q p v → CanReduce c q p v
  can_pair q p v m = record {
    q_place = m.least_other.has.has.place;
    p_place = m.pivot.has.place;
    apart = m.least_other.has.other;
    can = record { occurs = main_degree (poly c p) v (sound_at p m.pivot.has.place).poly.monomials m.pivot.has.main; below = below (m.pivot.least q m.least_other.has.has m.least_other.has.other) };
    unit = subst (IsUnit (known c)) (initial_is (poly c p) v m.pivot.has.main) m.decided;
  }
    where
      below : (degree_in v (poly c p) < degree_in v (poly c q)) ⊎ ((degree_in v (poly c p) ≡ degree_in v (poly c q)) × (p < q)) → degree_in v (poly c p) ≤ degree_in v (poly c q)
      below (inl l) = omega (arith, l)
      below (inr e) = omega (arith, e.0)

  can_split_on : (i : ℕ) (s : List Term) (tail : Option ℕ) → i < count c → (IsDecided (known c) (poly c i) → ⊥) → IsInitialSplit c i s tail → CanSplit c s tail × IsWhole s
  can_split_on i s tail l none m = each m.on
    where
      initial_poly : IsPoly (leading_in m.v (poly c i))
      initial_poly = leading_poly m.v (poly c i) (sound_at i l).poly

      whole : IsWhole m.rest
      whole = rest_whole (known c) (leading_in m.v (poly c i)) m.factor m.rest initial_poly (leading_nonzero m.v (poly c i) (sound_at i l).nonzero) m.initial.cleared

      each : IsSplitOn m.rest i s tail → CanSplit c s tail × IsWhole s
      each (inl x) =
          (subst (CanSplit c s) (sym x.3) (x.0, x.2), subst IsWhole (sym x.2) (variable_whole x.0 m.rest whole.poly whole.nonzero x.1.has))
      each (inr x) =
          let form : IsInForm m.rest = record {
            poly = whole.poly;
            primitive = whole.primitive;
            varied = rest_varied (known c) (leading_in m.v (poly c i)) m.factor m.rest (λ u. none (subst (IsUnit (known c)) (sym (initial_is (poly c i) m.v m.initial.main)) u)) whole m.initial.cleared;
            whole = x.0;
          } in
          let can : IsTail c m.rest i = record { place = l; v = m.v; u = m.factor; initial = m.initial; in_form = form } in
          (subst (CanSplit c s) (sym x.2) (subst (λ p. CanSplit c p (Some i)) (sym x.1) can), subst IsWhole (sym x.1) whole)

  can_factor : (s : List Term) (tail : Option ℕ) → IsFactorMove c s tail → CanSplit c s tail × IsWhole s
  can_factor s tail m =
      let sound = sound_at m.at m.least.has.place in
      (subst (CanSplit c s) (sym m.no_tail) (m.v, m.is_variable), subst IsWhole (sym m.is_variable) (variable_whole m.v (poly c m.at) sound.poly sound.nonzero m.lowest.has))

  pub can_move : (m : Move) → IsMove c m → CanMake c m × IsGoodMove m
  can_move m (linear q p v a) = (can_linear q p v a, tt)
  can_move m (factor s tail l a) = can_factor s tail a
  can_move m (pair_reduction q p v l f a) = (can_pair q p v a, tt)
  can_move m (pair_split s tail l f a) = can_split_on a.p s tail a.pivot.has.place a.undecided a.split
  can_move m (initial_split s tail l f h a) = can_split_on a.at s tail a.least.has.place a.least.has.undecided a.split
