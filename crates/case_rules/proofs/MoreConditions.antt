-- A unit under conditions is a unit under one condition more.
use Rattle.std.specs.Prelude.{◌≡◌, ◌≢◌, ◌<◌, ℕ, zero, suc, ◌⊎◌, true, false, if◌then◌else◌, ◌==◌, unsigned_abs, pos, List, [], ◌∷◌, ◌++◌, length, All, refl}
use mathlib.Core.Logic.{inl, inr}
use Rattle.std.proofs.Common.{arith, sym, ◌∙◌, ap, subst, length-append}
use Rattle.std.proofs.lemmas.Int.{ints}
use Rattle.std.proofs.lemmas.List.{get_or_append_left}
use Rattle.std.proofs.Math.Seq.{get_or-append_seam}
use Prim.Native.Nat.{◌∣◌}
use Rattle.std.specs.List.{AllByRecursion, Contains}
use Rattle.std.specs.Ordering.{is_eq}
use Rattle.std.specs.Cmp.{tied_itself}
use Rattle.std.proofs.lemmas.Bool.Decides.{eqb_tells}
use Rattle.sparse_poly.specs.declared.Term.{Term}
use Rattle.sparse_poly.specs.Polynomials.{coefficient, products, constant, variable}
use Rattle.sparse_poly.specs.Contributions.{IsPoly}
use Rattle.sparse_poly.specs.Order.{poly_cmp}
use Rattle.sparse_poly.specs.OrderLaws.{poly_cmp-IsAntisymmetric, poly_cmp-IsTotalOrder}
use Rattle.sparse_poly.specs.Units.{IsUnitTerm, IsStripped, IsOneOrMember}
use Rattle.sparse_poly.specs.Clearing.{DividesOpenly, IsDividedBy, IsInForm, IsDivision, IsDividedOut, finished, passed, divided, IsStripUnit, IsUnit}
use Rattle.sparse_poly.specs.Clearing as clearing
use Rattle.sparse_poly.proofs.Descending.{all_map}
use Rattle.sparse_poly.proofs.Evaluation.{tied}
use Rattle.sparse_poly.proofs.InForm.{one_size}
use Rattle.sparse_poly.proofs.OneQuotient.{division_lowers}
use Rattle.sparse_poly.proofs.ProductSums.{products_comm}
use Rattle.sparse_poly.proofs.Same.{same_polynomial}
use Rattle.case_rules.specs.Belonging.{IsCondition}
use Rattle.case_rules.proofs.FreeParts.{divides_other}
use Rattle.case_rules.proofs.Sides.{one_product, powers_of}

-- the constant 1
one_poly : IsPoly (constant (pos 1))
one_poly = record { falling = (tt, tt); monomials = (record { powers = tt; in_range = tt }, tt); apart = ((λ e. omega (arith, ints, e)), tt); in_range = (omega arith, tt) }

one_undivided : (v : ℕ) → IsDividedBy v (constant (pos 1)) → ⊥
one_undivided v d = absurd (omega (arith, d.0))

one_primitive : (d : ℕ) → AllByRecursion (λ (t : Term). d ∣ unsigned_abs t.coeff) (constant (pos 1)) → d ≡ 1
one_primitive d a = one_size d a.0

-- the factor of a strip is a unit
pub factor_unit : (units : List (List Term)) (m : List Term) → IsPoly m → IsUnitTerm units m → IsUnit units m
factor_unit units m h o = inl (record {
  factor = m;
  rest = constant (pos 1);
  stripped = record {
    factor_poly = h;
    rest_poly = one_poly;
    product = λ k. sym (products_comm m (constant (pos 1)) (powers_of m h) (tt, tt) k ∙ ap (λ x. coefficient x k) (one_product m));
    primitive = (omega (arith, ints), one_primitive);
    divided = λ v c d. absurd (one_undivided v d);
    out = o;
    zero_factor = λ e. absurd (subst (IsUnitTerm units) e o);
  };
  member = inl refl;
})

-- a condition in form is a unit
pub condition_unit : (units : List (List Term)) (n : List Term) → IsInForm n → Contains units n → IsUnit units n
condition_unit units n h c = inl (record {
  factor = constant (pos 1);
  rest = n;
  stripped = record {
    factor_poly = one_poly;
    rest_poly = h.poly;
    product = λ k. sym (ap (λ x. coefficient x k) (one_product n));
    primitive = h.primitive;
    divided = λ v i d. absurd (h.whole v d);
    out = tt;
    zero_factor = λ e. refl;
  };
  member = inr c;
})

module _ (units : List (List Term)) (s : List Term) where
  abbrev more : List (List Term)
  more = units ++ s ∷ []

  pub still_member : (p : List Term) → Contains units p → Contains more p
  still_member p (k, l, e) = (k, omega (arith, l, length-append units (s ∷ [])), get_or_append_left units (s ∷ []) p k l ∙ e)

  last_member : Contains more s
  last_member = (length units, omega (arith, length-append units (s ∷ [])), get_or-append_seam units s [] s)

  member_before : (p : List Term) → Contains more p → Contains units p ⊎ (s ≡ p)
  member_before p c = split units c
    where
      split : (us : List (List Term)) → Contains (us ++ s ∷ []) p → Contains us p ⊎ (s ≡ p)
      split [] (zero, l, e) = inr e
      split [] (suc k, l, e) = absurd (omega (arith, l))
      split (u ∷ us) (zero, l, e) = inl (0, omega arith, e)
      split (u ∷ us) (suc k, l, e) = later (split us (k, omega (arith, l), e))
        where
          later : Contains us p ⊎ (s ≡ p) → Contains (u ∷ us) p ⊎ (s ≡ p)
          later (inl (j, m, f)) = inl (suc j, omega (arith, m), f)
          later (inr f) = inr f

  still_unit_term : (m : List Term) → IsUnitTerm units m → IsUnitTerm more m
  still_unit_term [] o = absurd o
  still_unit_term (t ∷ []) o = all_map (λ (q : ℕ × ℕ). Contains units (variable q.0)) (λ (q : ℕ × ℕ). Contains more (variable q.0)) t.monomial (λ q c. still_member (variable q.0) c) o
  still_unit_term (t ∷ u ∷ us) o = absurd o

  still_one_or_member : (p : List Term) → IsOneOrMember units p → IsOneOrMember more p
  still_one_or_member p (inl e) = inl e
  still_one_or_member p (inr c) = inr (still_member p c)

  -- a strip stays where the new condition divides the rest by no variable
  strip_more : (p f r : List Term) → IsStripped units p f r → ((v : ℕ) → s ≡ variable v → IsDividedBy v r → r ≡ []) → IsStripped more p f r
  strip_more p f r h none = record {
    factor_poly = h.factor_poly;
    rest_poly = h.rest_poly;
    product = h.product;
    primitive = h.primitive;
    divided = λ v c d. each v (member_before (variable v) c) d;
    out = still_unit_term f h.out;
    zero_factor = h.zero_factor;
  }
    where
      each : (v : ℕ) → Contains units (variable v) ⊎ (s ≡ variable v) → IsDividedBy v r → r ≡ []
      each v (inl c) d = h.divided v c d
      each v (inr e) d = none v e d

  -- the divisions go on as before, until what is left is a condition
  narrowed : (n f g d k : List Term) → IsDivision more n f g d k → IsDivision units n f g d k
  narrowed n f g d k i = record { in_form = i.in_form; nonzero = i.nonzero; apart = λ c. i.apart (still_member g c); quotient = i.quotient; factor = i.factor; whole = i.whole }

  widened : (n f g d k : List Term) → (s ≡ g → ⊥) → IsDivision units n f g d k → IsDivision more n f g d k
  widened n f g d k apart i = record { in_form = i.in_form; nonzero = i.nonzero; apart = λ c. each (member_before g c); quotient = i.quotient; factor = i.factor; whole = i.whole }
    where
      each : Contains units g ⊎ (s ≡ g) → ⊥
      each (inl c) = i.apart c
      each (inr e) = apart e

  record IsMadeUnit (ns : List (List Term)) (f g : List Term) : Type 0 where
    factor : List Term
    rest : List Term
    divisions : IsDividedOut more ns f g factor rest
    member : IsOneOrMember more rest

  -- what is left is a member, so no more is divided out
  blocked : (ns : List (List Term)) (f g : List Term) → Contains more g → IsDividedOut more ns f g f g
  blocked [] f g c = finished
  blocked (n ∷ ns) f g c = passed (λ d k i. i.apart c) (blocked ns f g c)

  one_blocked : (f g d k : List Term) → g ≡ constant (pos 1) → IsDivision more s f g d k → ⊥
  one_blocked f g d k e i = let l = subst (λ x. clearing.leading_degree k < clearing.leading_degree x) e (division_lowers more s f g d k i) in absurd (omega (arith, l))

  same_or_apart : (g : List Term) → (s ≡ g) ⊎ (s ≡ g → ⊥)
  same_or_apart g = elim (is_eq (poly_cmp s g)) as (λ b. is_eq (poly_cmp s g) ≡ b → (s ≡ g) ⊎ (s ≡ g → ⊥)) [
    | true ↦ λ e. inl (poly_cmp-IsAntisymmetric s g (tied _ e))
    | false ↦ λ e. inr (λ h. cc (sym e ∙ ap is_eq (ap (λ x. poly_cmp s x) (sym h)) ∙ ap is_eq (tied_itself poly_cmp-IsTotalOrder s)))
  ] refl

  made_unit : (ns : List (List Term)) (f g e h : List Term) → IsDividedOut units ns f g e h → IsOneOrMember units h → IsMadeUnit (ns ++ s ∷ []) f g
  made_unit ns f g e h (clearing.IsDividedOut.finished) (inl one) = record { factor = f; rest = g; divisions = passed (λ d k i. one_blocked f g d k one i) finished; member = inl one }
  made_unit ns f g e h (clearing.IsDividedOut.finished) (inr c) = record { factor = f; rest = g; divisions = passed (λ d k i. i.apart (still_member g c)) finished; member = inr (still_member g c) }
  made_unit (n ∷ ns) f g e h (clearing.IsDividedOut.passed none rest) m =
      let r = made_unit ns f g e h rest m in
      record { factor = r.factor; rest = r.rest; divisions = passed (λ d k i. none d k (narrowed n f g d k i)) r.divisions; member = r.member }
  made_unit (n ∷ ns) f g e h (clearing.IsDividedOut.divided {d = d} {k = k} i rest) m = each (same_or_apart g) (made_unit (n ∷ ns) d k e h rest m)
    where
      each : (s ≡ g) ⊎ (s ≡ g → ⊥) → IsMadeUnit (n ∷ ns ++ s ∷ []) d k → IsMadeUnit (n ∷ ns ++ s ∷ []) f g
      each (inl same) r = record { factor = f; rest = g; divisions = blocked (n ∷ ns ++ s ∷ []) f g (subst (Contains more) same last_member); member = inr (subst (Contains more) same last_member) }
      each (inr apart) r =
          record { factor = r.factor; rest = r.rest; divisions = divided (widened n f g d k apart i) r.divisions; member = r.member }

  -- a variable that divides what is left divides what is left at last
  divided_left : (v : ℕ) (ns : List (List Term)) (f g e h : List Term) → IsDividedOut units ns f g e h → IsPoly g → IsDividedBy v g → (g ≡ [] → ⊥) → IsDividedBy v h × (h ≡ [] → ⊥)
  divided_left v ns f g e h (clearing.IsDividedOut.finished) p d z = (d, z)
  divided_left v (n ∷ ns) f g e h (clearing.IsDividedOut.passed none rest) p d z = divided_left v ns f g e h rest p d z
  divided_left v (n ∷ ns) f g e h (clearing.IsDividedOut.divided {d = a} {k = k} i rest) p d z =
      divided_left v (n ∷ ns) a k e h rest i.quotient.poly (divides_other v g k n i.quotient.poly i.in_form.poly i.quotient.product.sums d (i.in_form.whole v)) some
    where
      some : k ≡ [] → ⊥
      some b = z (same_polynomial g [] p (subst IsPoly b i.quotient.poly) (λ m. i.quotient.product.sums m ∙ ap (λ x. coefficient (products x n) m) b))

-- a variable that divides another one is that
variable_one : (v w : ℕ) → IsDividedBy v (variable w) → v ≡ w
variable_one v w d = each (eqb_tells w v)
  where
    each : ((w == v) ≡ true) × (w ≡ v) ⊎ ((w == v) ≡ false) × (w ≢ v) → v ≡ w
    each (inl e) = sym e.1
    each (inr e) = absurd (omega (arith, ap {B = ℕ} (λ b. if b then 1 else 0) e.0, d.0))

own_divided : (w : ℕ) → IsDividedBy w (variable w)
own_divided w = each (eqb_tells w w)
  where
    each : ((w == w) ≡ true) × (w ≡ w) ⊎ ((w == w) ≡ false) × (w ≢ w) → IsDividedBy w (variable w)
    each (inl e) = (omega (arith, ap {B = ℕ} (λ b. if b then 1 else 0) e.0), tt)
    each (inr e) = absurd (e.1 refl)

-- a member of conditions is one
member_condition : (units : List (List Term)) (p : List Term) → All IsCondition units → Contains units p → IsCondition p
member_condition units p all c = subst IsCondition c.2 (all c.0 p c.1)

-- no variable divides the rest of a strip that is 1 or a condition
rest_whole : (units : List (List Term)) (p f r : List Term) (v : ℕ) → All IsCondition units → IsStripped units p f r → IsOneOrMember units r → IsDividedBy v r → ⊥
rest_whole units p f r v all h (inl one) d = one_undivided v (subst (IsDividedBy v) one d)
rest_whole units p f r v all h (inr c) d = each (member_condition units r all c)
  where
    each : IsCondition r → ⊥
    each (inr form) = form.whole v d
    each (inl (w, e)) = cc (sym e ∙ h.divided w (subst (Contains units) e c) (subst (IsDividedBy w) (sym e) (own_divided w)))

-- a unit stays a unit
pub unit_more : (units : List (List Term)) (s p : List Term) → All IsCondition units → IsCondition s → IsUnit units p → IsUnit (units ++ s ∷ []) p
unit_more units s p all c (inl u) = inl (record {
  factor = u.factor;
  rest = u.rest;
  stripped = strip_more units s p u.factor u.rest u.stripped (λ v e d. absurd (rest_whole units p u.factor u.rest v all u.stripped u.member d));
  member = still_one_or_member units s u.rest u.member;
})
unit_more units s p all c (inr u) = each c
  where
    left : List Term
    left = u.cleared.strip_rest

    goes : ((v : ℕ) → s ≡ variable v → IsDividedBy v left → left ≡ []) → IsUnit (units ++ s ∷ []) p
    goes none =
        let r = made_unit units s units u.cleared.strip_factor left u.factor u.rest u.cleared.divided_out u.member in
        inr (record {
          factor = r.factor;
          rest = r.rest;
          cleared = record { strip_factor = u.cleared.strip_factor; strip_rest = left; stripped = strip_more units s p u.cleared.strip_factor left u.cleared.stripped none; divided_out = r.divisions };
          member = r.member;
        })

    -- what is left at last is 1 or a condition, which the variable does not divide
    clash : (w : ℕ) → IsDividedBy w left → (left ≡ [] → ⊥) → ⊥
    clash w d z = at_last u.member
      where
        last : IsDividedBy w u.rest
        last = (divided_left units s w units u.cleared.strip_factor left u.factor u.rest u.cleared.divided_out u.cleared.stripped.rest_poly d z).0

        at_last : IsOneOrMember units u.rest → ⊥
        at_last (inl one) = one_undivided w (subst (IsDividedBy w) one last)
        at_last (inr m) = by_form (member_condition units u.rest all m)
          where
            by_form : IsCondition u.rest → ⊥
            by_form (inr form) = form.whole w last
            by_form (inl (x, e)) =
                let same : w ≡ x = variable_one w x (subst (IsDividedBy w) e last) in
                z (u.cleared.stripped.divided w (subst (λ y. Contains units (variable y)) (sym same) (subst (Contains units) e m)) d)

    zero_or : (w : ℕ) → IsDividedBy w left → left ≡ []
    zero_or w d = by left refl
      where
        by : (g : List Term) → left ≡ g → left ≡ []
        by [] e = e
        by (t ∷ ts) e = absurd (clash w d (λ z. cc (sym e ∙ z)))

    each : IsCondition s → IsUnit (units ++ s ∷ []) p
    each (inr form) = goes (λ v e d. absurd (form.whole v (subst (IsDividedBy v) (sym e) (own_divided v))))
    each (inl (w, e)) = goes (λ v f d. zero_or v d)
