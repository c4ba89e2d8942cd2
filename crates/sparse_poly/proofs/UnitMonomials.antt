-- The greatest monomial in variables that are units which divides all terms.
use Rattle.std.specs.Prelude.{◌≡◌, ◌≢◌, ◌<◌, ◌≤◌, ℕ, zero, suc, ◌^◌, ◌⊎◌, Bool, true, false, ◌||◌, ◌==◌, if◌then◌else◌, nat_lt, min, ◌↔◌, pos, ◌+◌, List, [], ◌∷◌, length, drop, slice_get, slice_index_or, IsTrue, refl}
use mathlib.Core.Logic.{inl, inr}
use Rattle.std.proofs.Common.{arith, sym, ◌∙◌, ap, subst}
use Rattle.std.proofs.lemmas.Bool.Decides.{nat_tests, eqb_tells}
use Rattle.std.specs.List.{AllByRecursion, Contains}
use Rattle.std.specs.declared.cmp.Ordering.TheVariants.{Equal}
use Rattle.std.specs.Ordering.{is_eq}
use Rattle.std.specs.Cmp.{tied_itself}
use Rattle.std.specs.declared.option.Option.TheVariants.{Some}
use Rattle.monomial.specs.Monomials.{exponent, IsBelow, IsPowers, IsMonomial}
use Rattle.monomial.proofs.Exponents.{exponent_here, exponent_there, exponent_above}
use Rattle.sparse_poly.specs.declared.Term.{Term}
use Rattle.sparse_poly.specs.Polynomials.{variable}
use Rattle.sparse_poly.specs.Contributions.{IsPoly}
use Rattle.sparse_poly.specs.Order.{poly_cmp}
use Rattle.sparse_poly.specs.Factors.{is_member, least_exponent, unit_exponent, unit_powers, IsUnitMonomial}
use Rattle.monomial.proofs.Total.{pair_same}
use Rattle.sparse_poly.specs.OrderLaws.{same_term, poly_cmp-IsAntisymmetric, poly_cmp-IsTotalOrder}
use Rattle.sparse_poly.proofs.Evaluation.{tied}
use Rattle.sparse_poly.proofs.Places.{drop_one}

-- membership by the test
pub contains_later : (units : List (List Term)) (u p : List Term) → Contains units p → Contains (u ∷ units) p
contains_later units u p (k, l, e) = (suc k, omega arith, e)

pub Contains-from_test : (units : List (List Term)) (p : List Term) → is_member units p ≡ true → Contains units p
Contains-from_test [] p e = absurd (cc e)
Contains-from_test (u ∷ us) p e =
    elim (is_eq (poly_cmp u p)) as (λ b. is_eq (poly_cmp u p) ≡ b → (b || is_member us p) ≡ true → Contains (u ∷ us) p) [
      | true ↦ λ f g. (0, omega arith, poly_cmp-IsAntisymmetric u p (tied _ f))
      | false ↦ λ f g. contains_later us u p (Contains-from_test us p g)
    ] refl e

or_true : (b : Bool) → (b || true) ≡ true
or_true true = refl
or_true false = refl

pub test-from_Contains : (units : List (List Term)) (p : List Term) → Contains units p → is_member units p ≡ true
test-from_Contains [] p (k, l, e) = absurd (omega arith)
test-from_Contains (u ∷ us) p (zero, l, e) = ap (λ b. b || is_member us p) (ap is_eq (ap (λ x. poly_cmp x p) e ∙ tied_itself poly_cmp-IsTotalOrder p))
test-from_Contains (u ∷ us) p (suc k, l, e) = ap (λ b. is_eq (poly_cmp u p) || b) (test-from_Contains us p (k, omega arith, e)) ∙ or_true (is_eq (poly_cmp u p))

pub is_contained : (units : List (List Term)) (p : List Term) (b : Bool) → b ≡ is_member units p → (IsTrue b → Contains units p) × (Contains units p → IsTrue b)
is_contained units p b e = (λ t. Contains-from_test units p (sym e ∙ t), λ m. e ∙ test-from_Contains units p m)

-- the monomial of one power in which v has the exponent 1
one_power : (m : List (ℕ × ℕ)) (v : ℕ) → exponent m v ≡ 1 → length m ≡ 1 → m ≡ (v, 1) ∷ []
one_power [] v e l = absurd (omega (arith, l))
one_power (p ∷ q ∷ qs) v e l = absurd (omega (arith, l))
one_power (p ∷ []) v e l = each (eqb_tells p.0 v)
  where
    each : ((p.0 == v ≡ true) × (p.0 ≡ v)) ⊎ ((p.0 == v ≡ false) × (p.0 ≢ v)) → p ∷ [] ≡ (v, 1) ∷ []
    each (inl (t, s)) = ap (λ q. q ∷ []) (pair_same p.0 v p.1 1 s (sym (exponent_here p [] v s) ∙ e))
    each (inr (t, n)) = absurd (omega (arith, e, exponent_there p [] v n))

-- one term with the coefficient 1 in which v has the exponent 1 is the variable v, if it has one power
pub one_variable : (ts : List Term) (t : Term) (v n : ℕ) → t ≡ slice_index_or ts 0 t → length ts ≡ 1 → t.coeff ≡ pos 1 → exponent t.monomial v ≡ 1 → n ≡ length t.monomial → (n ≡ 1) ↔ (ts ≡ variable v)
one_variable [] t v n e l c x s = absurd (omega (arith, l))
one_variable (u ∷ w ∷ ws) t v n e l c x s = absurd (omega (arith, l))
one_variable (u ∷ []) t v n e l c x s = (
  λ k. ap (λ y. y ∷ []) (sym e ∙ same_term t (record { monomial = (v, 1) ∷ []; coeff = pos 1 }) (one_power t.monomial v x (sym s ∙ k)) c),
  λ f. s ∙ ap (λ (y : Term). length y.monomial) (e ∙ ap (λ ys. slice_index_or ys 0 t) f),
)

-- what tells whether two polynomials are the same is their comparison
pub test_is : (b : Bool) (u p : List Term) → (b ≡ true → u ≡ p) → (u ≡ p → b ≡ true) → is_eq (poly_cmp u p) ≡ b
test_is true u p f g = ap (λ x. is_eq (poly_cmp x p)) (f refl) ∙ ap is_eq (tied_itself poly_cmp-IsTotalOrder p)
test_is false u p f g =
    elim (is_eq (poly_cmp u p)) as (λ b. is_eq (poly_cmp u p) ≡ b → b ≡ false) [
      | true ↦ λ e. absurd (cc (g (poly_cmp-IsAntisymmetric u p (tied _ e))))
      | false ↦ λ e. refl
    ] refl

-- past a polynomial that is another
pub is_member-here : (us : List (List Term)) (i : ℕ) (u p : List Term) → i < length us → u ≡ slice_index_or us i u → poly_cmp u p ≡ Equal → is_member (drop i us) p ≡ true
is_member-here us i u p l e f =
    ap (λ xs. is_member xs p) (drop_one us i u l ∙ ap (λ x. x ∷ drop (i + 1) us) (sym e)) ∙ ap (λ o. is_eq o || is_member (drop (i + 1) us) p) f

pub is_member-later : (us : List (List Term)) (i : ℕ) (u p : List Term) → i < length us → u ≡ slice_index_or us i u → is_eq (poly_cmp u p) ≡ false → is_member (drop (i + 1) us) p ≡ is_member (drop i us) p
is_member-later us i u p l e f =
    ap (λ b. b || is_member (drop (i + 1) us) p) (sym f) ∙ ap (λ xs. is_member xs p) (ap (λ x. x ∷ drop (i + 1) us) e ∙ sym (drop_one us i u l))

-- the least of a number and the exponents of a variable
pub least_le : (v n : ℕ) (ts : List Term) → least_exponent v n ts ≤ n
least_le v n [] = omega arith
least_le v n (t ∷ ts) = let rest = least_le v (min n (exponent t.monomial v)) ts in omega arith

least_below : (v n k : ℕ) (ts : List Term) → k ≤ least_exponent v n ts → AllByRecursion (λ (t : Term). k ≤ exponent t.monomial v) ts
least_below v n k [] h = tt
least_below v n k (t ∷ ts) h =
    let first = least_le v (min n (exponent t.monomial v)) ts in
    (omega arith, least_below v (min n (exponent t.monomial v)) k ts h)

least_above : (v n m : ℕ) (ts : List Term) → m < n → AllByRecursion (λ (t : Term). m < exponent t.monomial v) ts → m < least_exponent v n ts
least_above v n m [] l h = l
least_above v n m (t ∷ ts) l h =
    let own : m < exponent t.monomial v = h.0 in
    least_above v (min n (exponent t.monomial v)) m ts (omega arith) h.1

unit_exponent_le : (units : List (List Term)) (ts : List Term) (p : ℕ × ℕ) → unit_exponent units ts p ≤ p.1
unit_exponent_le units ts p =
    elim (is_member units (variable p.0)) as (λ b. (if b then least_exponent p.0 p.1 ts else 0) ≤ p.1) [ true ↦ least_le p.0 p.1 ts | false ↦ omega arith ]

pub unit_exponent_small : (units : List (List Term)) (ts : List Term) (p : ℕ × ℕ) → p.1 ≤ 65535 → unit_exponent units ts p ≤ 65535
unit_exponent_small units ts p l = let h = unit_exponent_le units ts p in omega arith

unit_exponent_member : (units : List (List Term)) (ts : List Term) (p : ℕ × ℕ) → 0 < unit_exponent units ts p → Contains units (variable p.0)
unit_exponent_member units ts p l =
    elim (is_member units (variable p.0)) as (λ b. is_member units (variable p.0) ≡ b → 0 < (if b then least_exponent p.0 p.1 ts else 0) → Contains units (variable p.0)) [
      | true ↦ λ e m. Contains-from_test units (variable p.0) e
      | false ↦ λ e m. absurd (omega arith)
    ] refl l

-- one power, and the others
unit_step : (units : List (List Term)) (ts : List Term) (p : ℕ × ℕ) (ps : List (ℕ × ℕ)) → ((0 < unit_exponent units ts p) × (unit_powers units ts (p ∷ ps) ≡ (p.0, unit_exponent units ts p) ∷ unit_powers units ts ps)) ⊎ ((unit_exponent units ts p ≡ 0) × (unit_powers units ts (p ∷ ps) ≡ unit_powers units ts ps))
unit_step units ts p ps =
    elim (nat_lt 0 (unit_exponent units ts p)) as (λ b. nat_lt 0 (unit_exponent units ts p) ≡ b → ((0 < unit_exponent units ts p) × ((if b then (p.0, unit_exponent units ts p) ∷ unit_powers units ts ps else unit_powers units ts ps) ≡ (p.0, unit_exponent units ts p) ∷ unit_powers units ts ps)) ⊎ ((unit_exponent units ts p ≡ 0) × ((if b then (p.0, unit_exponent units ts p) ∷ unit_powers units ts ps else unit_powers units ts ps) ≡ unit_powers units ts ps))) [
      | true ↦ λ e. inl (positive (unit_exponent units ts p) e, refl)
      | false ↦ λ e. inr (none (unit_exponent units ts p) e, refl)
    ] refl
  where
    positive : (n : ℕ) → nat_lt 0 n ≡ true → 0 < n
    positive n e = grind (arith, nat_tests)

    none : (n : ℕ) → nat_lt 0 n ≡ false → n ≡ 0
    none n e = grind (arith, nat_tests)

abbrev Step : List (List Term) → List Term → ℕ × ℕ → List (ℕ × ℕ) → Type 0
Step units ts p ps = ((0 < unit_exponent units ts p) × (unit_powers units ts (p ∷ ps) ≡ (p.0, unit_exponent units ts p) ∷ unit_powers units ts ps)) ⊎ ((unit_exponent units ts p ≡ 0) × (unit_powers units ts (p ∷ ps) ≡ unit_powers units ts ps))

IsBelow-unit_powers : (units : List (List Term)) (ts : List Term) (v : ℕ) (ps : List (ℕ × ℕ)) → IsBelow v ps → IsBelow v (unit_powers units ts ps)
IsBelow-unit_powers units ts v [] h = tt
IsBelow-unit_powers units ts v (p ∷ ps) h = either (IsBelow-unit_powers units ts v ps h.1) (unit_step units ts p ps)
  where
    either : IsBelow v (unit_powers units ts ps) → Step units ts p ps → IsBelow v (unit_powers units ts (p ∷ ps))
    either rest (inl (l, e)) = subst (IsBelow v) (sym e) (h.0, rest)
    either rest (inr (l, e)) = subst (IsBelow v) (sym e) rest

IsPowers-unit_powers : (units : List (List Term)) (ts : List Term) (ps : List (ℕ × ℕ)) → IsPowers ps → IsPowers (unit_powers units ts ps)
IsPowers-unit_powers units ts [] h = tt
IsPowers-unit_powers units ts (p ∷ ps) h = either (IsPowers-unit_powers units ts ps h.2) (unit_step units ts p ps)
  where
    either : IsPowers (unit_powers units ts ps) → Step units ts p ps → IsPowers (unit_powers units ts (p ∷ ps))
    either rest (inl (l, e)) = subst IsPowers (sym e) (l, IsBelow-unit_powers units ts p.0 ps h.1, rest)
    either rest (inr (l, e)) = subst IsPowers (sym e) rest

abbrev InRange : List (ℕ × ℕ) → Type 0
InRange ps = AllByRecursion (λ (p : ℕ × ℕ). (p.0 < 2 ^ 32) × (p.1 ≤ 65535)) ps

in_range-unit_powers : (units : List (List Term)) (ts : List Term) (ps : List (ℕ × ℕ)) → InRange ps → InRange (unit_powers units ts ps)
in_range-unit_powers units ts [] h = tt
in_range-unit_powers units ts (p ∷ ps) h = either (in_range-unit_powers units ts ps h.1) (unit_step units ts p ps)
  where
    either : InRange (unit_powers units ts ps) → Step units ts p ps → InRange (unit_powers units ts (p ∷ ps))
    either rest (inl (l, e)) = subst InRange (sym e) ((h.0.0, unit_exponent_small units ts p h.0.1), rest)
    either rest (inr (l, e)) = subst InRange (sym e) rest

pub IsMonomial-unit_powers : (units : List (List Term)) (ts : List Term) (ps : List (ℕ × ℕ)) → IsMonomial ps → IsMonomial (unit_powers units ts ps)
IsMonomial-unit_powers units ts ps h = record { powers = IsPowers-unit_powers units ts ps h.powers; in_range = in_range-unit_powers units ts ps h.in_range }

abbrev AllMembers : List (List Term) → List (ℕ × ℕ) → Type 0
AllMembers units ps = AllByRecursion (λ (q : ℕ × ℕ). Contains units (variable q.0)) ps

members-unit_powers : (units : List (List Term)) (ts : List Term) (ps : List (ℕ × ℕ)) → AllMembers units (unit_powers units ts ps)
members-unit_powers units ts [] = tt
members-unit_powers units ts (p ∷ ps) = either (members-unit_powers units ts ps) (unit_step units ts p ps)
  where
    either : AllMembers units (unit_powers units ts ps) → Step units ts p ps → AllMembers units (unit_powers units ts (p ∷ ps))
    either rest (inl (l, e)) = subst (AllMembers units) (sym e) (unit_exponent_member units ts p l, rest)
    either rest (inr (l, e)) = subst (AllMembers units) (sym e) rest

-- the exponent of a variable in it
exponent-unit_powers : (units : List (List Term)) (ts : List Term) (v : ℕ) (ps : List (ℕ × ℕ)) → IsPowers ps → ((exponent ps v ≡ 0) × (exponent (unit_powers units ts ps) v ≡ 0)) ⊎ ((0 < exponent ps v) × (exponent (unit_powers units ts ps) v ≡ unit_exponent units ts (v, exponent ps v)))
exponent-unit_powers units ts v [] h = inl (refl, refl)
exponent-unit_powers units ts v (p ∷ ps) h = either (exponent-unit_powers units ts v ps h.2) (eqb_tells p.0 v) (unit_step units ts p ps)
  where
    either : ((exponent ps v ≡ 0) × (exponent (unit_powers units ts ps) v ≡ 0)) ⊎ ((0 < exponent ps v) × (exponent (unit_powers units ts ps) v ≡ unit_exponent units ts (v, exponent ps v))) → ((p.0 == v ≡ true) × (p.0 ≡ v)) ⊎ ((p.0 == v ≡ false) × (p.0 ≢ v)) → Step units ts p ps →
        ((exponent (p ∷ ps) v ≡ 0) × (exponent (unit_powers units ts (p ∷ ps)) v ≡ 0)) ⊎ ((0 < exponent (p ∷ ps) v) × (exponent (unit_powers units ts (p ∷ ps)) v ≡ unit_exponent units ts (v, exponent (p ∷ ps) v)))
    either rest (inl (t, g)) (inl (l, e)) =
        let own = exponent_here p ps v g in
        let some : 0 < p.1 = h.0 in
        inr (omega arith, ap (λ qs. exponent qs v) e ∙ exponent_here (p.0, unit_exponent units ts p) (unit_powers units ts ps) v g ∙ ap (λ w. unit_exponent units ts (w, p.1)) g ∙ ap (λ n. unit_exponent units ts (v, n)) (sym own))
    either rest (inl (t, g)) (inr (z, e)) =
        let own = exponent_here p ps v g in
        let some : 0 < p.1 = h.0 in
        inr (omega arith, ap (λ qs. exponent qs v) e ∙ exponent_above p.0 (unit_powers units ts ps) v (IsBelow-unit_powers units ts p.0 ps h.1) (omega arith) ∙ sym z ∙ ap (λ w. unit_exponent units ts (w, p.1)) g ∙ ap (λ n. unit_exponent units ts (v, n)) (sym own))
    either (inl r) (inr (t, n)) (inl (l, e)) = inl (exponent_there p ps v n ∙ r.0, ap (λ qs. exponent qs v) e ∙ exponent_there (p.0, unit_exponent units ts p) (unit_powers units ts ps) v n ∙ r.1)
    either (inl r) (inr (t, n)) (inr (z, e)) = inl (exponent_there p ps v n ∙ r.0, ap (λ qs. exponent qs v) e ∙ r.1)
    either (inr r) (inr (t, n)) (inl (l, e)) =
        let same = exponent_there p ps v n in
        inr (omega (arith, r.0, same), ap (λ qs. exponent qs v) e ∙ exponent_there (p.0, unit_exponent units ts p) (unit_powers units ts ps) v n ∙ r.1 ∙ ap (λ k. unit_exponent units ts (v, k)) (sym same))
    either (inr r) (inr (t, n)) (inr (z, e)) =
        let same = exponent_there p ps v n in
        inr (omega (arith, r.0, same), ap (λ qs. exponent qs v) e ∙ r.1 ∙ ap (λ k. unit_exponent units ts (v, k)) (sym same))

all_swap : (P : ℕ → Term → Type 0) (ts : List Term) → ((v : ℕ) → AllByRecursion (P v) ts) → AllByRecursion (λ (t : Term). (v : ℕ) → P v t) ts
all_swap P [] h = tt
all_swap P (t ∷ ts) h = (λ v. (h v).0, all_swap P ts (λ v. (h v).1))

all_zero : (v k : ℕ) (ts : List Term) → k ≡ 0 → AllByRecursion (λ (t : Term). k ≤ exponent t.monomial v) ts
all_zero v k [] e = tt
all_zero v k (t ∷ ts) e = (omega arith, all_zero v k ts e)

unit_exponent_below : (units : List (List Term)) (ts : List Term) (p : ℕ × ℕ) → AllByRecursion (λ (t : Term). unit_exponent units ts p ≤ exponent t.monomial p.0) ts
unit_exponent_below units ts p =
    elim (is_member units (variable p.0)) as (λ b. AllByRecursion (λ (t : Term). (if b then least_exponent p.0 p.1 ts else 0) ≤ exponent t.monomial p.0) ts) [
      | true ↦ least_below p.0 p.1 (least_exponent p.0 p.1 ts) ts (omega arith)
      | false ↦ all_zero p.0 0 ts refl
    ]

-- the monomial of the leading term
pub IsMonomial-leading : (ts : List Term) (t : Term) → Some t ≡ slice_get ts 0 → IsPoly ts → IsMonomial t.monomial
IsMonomial-leading [] t e h = absurd (cc e)
IsMonomial-leading (x ∷ xs) t e h =
    let same : t ≡ x = cc e in
    subst (λ (u : Term). IsMonomial u.monomial) (sym same) h.monomials.0

pub IsUnitMonomial-from : (units : List (List Term)) (ts : List Term) (t : Term) → Some t ≡ slice_get ts 0 → IsPoly ts → IsUnitMonomial units ts (unit_powers units ts t.monomial)
IsUnitMonomial-from units [] t e h = absurd (cc e)
IsUnitMonomial-from units (x ∷ xs) t e h = record {
  monomial = IsMonomial-unit_powers units (x ∷ xs) t.monomial own;
  members = members-unit_powers units (x ∷ xs) t.monomial;
  divides = all_swap (λ v (u : Term). exponent (unit_powers units (x ∷ xs) t.monomial) v ≤ exponent u.monomial v) (x ∷ xs) (λ v. each v (exponent-unit_powers units (x ∷ xs) v t.monomial own.powers));
  greatest = λ v m a. absurd (past v m a (exponent-unit_powers units (x ∷ xs) v t.monomial own.powers));
  none = λ f. absurd (cc f);
}
  where
    same : t ≡ x
    same = cc e

    own : IsMonomial t.monomial
    own = IsMonomial-leading (x ∷ xs) t e h

    each : (v : ℕ) → ((exponent t.monomial v ≡ 0) × (exponent (unit_powers units (x ∷ xs) t.monomial) v ≡ 0)) ⊎ ((0 < exponent t.monomial v) × (exponent (unit_powers units (x ∷ xs) t.monomial) v ≡ unit_exponent units (x ∷ xs) (v, exponent t.monomial v))) → AllByRecursion (λ (u : Term). exponent (unit_powers units (x ∷ xs) t.monomial) v ≤ exponent u.monomial v) (x ∷ xs)
    each v (inl r) = all_zero v _ (x ∷ xs) r.1
    each v (inr r) = subst (λ n. AllByRecursion (λ (u : Term). n ≤ exponent u.monomial v) (x ∷ xs)) (sym r.1) (unit_exponent_below units (x ∷ xs) (v, exponent t.monomial v))

    first : (v : ℕ) → exponent t.monomial v ≡ exponent x.monomial v
    first v = ap (λ (u : Term). exponent u.monomial v) same

    past : (v : ℕ) → Contains units (variable v) → AllByRecursion (λ (u : Term). exponent (unit_powers units (x ∷ xs) t.monomial) v < exponent u.monomial v) (x ∷ xs) → ((exponent t.monomial v ≡ 0) × (exponent (unit_powers units (x ∷ xs) t.monomial) v ≡ 0)) ⊎ ((0 < exponent t.monomial v) × (exponent (unit_powers units (x ∷ xs) t.monomial) v ≡ unit_exponent units (x ∷ xs) (v, exponent t.monomial v))) → ⊥
    past v m a (inl r) = absurd (omega (arith, a.0, r.0, first v))
    past v m a (inr r) =
        let least : unit_exponent units (x ∷ xs) (v, exponent t.monomial v) ≡ least_exponent v (exponent t.monomial v) (x ∷ xs) = ap (λ b. if b then least_exponent v (exponent t.monomial v) (x ∷ xs) else 0) (test-from_Contains units (variable v) m) in
        let more = least_above v (exponent t.monomial v) (exponent (unit_powers units (x ∷ xs) t.monomial) v) (x ∷ xs) (omega (arith, a.0, first v)) a in
        absurd (omega (arith, r.1, least, more))
