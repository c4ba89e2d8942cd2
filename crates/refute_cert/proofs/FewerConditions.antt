-- A unit under conditions is a unit under those of them on which that rests.
use Rattle.std.specs.Prelude.{◌≡◌, ◌≢◌, ◌<◌, ℕ, ◌+◌, ◌⊎◌, Bool, true, false, pos, List, [], ◌∷◌, Contains, refl}
use mathlib.Core.Logic.{inl, inr}
use Rattle.std.proofs.Common.{arith, sym, ◌∙◌, subst}
use Rattle.std.proofs.lemmas.Bool.{true≢false}
use Rattle.std.specs.List.{AllByRecursion}
use Rattle.std.specs.Ordering.{is_eq}
use Rattle.monomial.specs.Monomials.{exponent, monomial_times, IsBelow, IsPowers, IsMonomial}
use Rattle.monomial.proofs.Exponents.{exponent_here, exponent_there, exponent-times}
use Rattle.sparse_poly.specs.declared.Term.{Term}
use Rattle.sparse_poly.specs.Polynomials.{row, constant, variable}
use Rattle.sparse_poly.specs.Contributions.{IsPoly}
use Rattle.sparse_poly.specs.Order.{poly_cmp}
use Rattle.sparse_poly.specs.Units.{IsUnitTerm, IsStripped, IsOneOrMember}
use Rattle.sparse_poly.specs.Clearing.{IsDividedBy, IsDivision, IsDividedOut, finished, passed, divided, IsDividedOutBy, by_first, by_later, after, IsCleared, IsUnit, leading_degree}
use Rattle.sparse_poly.proofs.Strips.{row_of_stripped}
use Rattle.sparse_poly.proofs.OneQuotient.{division_lowers}
use Rattle.derive_lines.specs.Known.{Holds}
use Rattle.derive_lines.proofs.KnownSets.{same_test, contains-holds, holds-contains}
use Rattle.refute_cert.specs.Cone.{RestsOn, on_variable, on_divisor, on_strip_rest, on_clear_rest}

-- a list without some members for which K does not hold
pub data IsThinned (K : List Term → Type 0) : List (List Term) → List (List Term) → Type 0 where
  nothing : IsThinned K [] []
  dropped : {n : List Term} {ns ks : List (List Term)} → (K n → ⊥) → IsThinned K ns ks → IsThinned K (n ∷ ns) ks
  taken : {n : List Term} {ns ks : List (List Term)} → IsThinned K ns ks → IsThinned K (n ∷ ns) (n ∷ ks)

thinned_within : {K : List Term → Type 0} {ns ks : List (List Term)} → IsThinned K ns ks → (x : List Term) → Holds ks x → Holds ns x
thinned_within nothing x h = h
thinned_within (dropped z t) x h = inr (thinned_within t x h)
thinned_within (taken t) x (inl e) = inl e
thinned_within (taken t) x (inr h) = inr (thinned_within t x h)

pub kept_member : {K : List Term → Type 0} {ns ks : List (List Term)} → IsThinned K ns ks → (x : List Term) → K x → Holds ns x → Holds ks x
kept_member nothing x k h = h
kept_member {K = K} (dropped z t) x k (inl e) = absurd (z (subst K (sym e) k))
kept_member (dropped z t) x k (inr h) = kept_member t x k h
kept_member (taken t) x k (inl e) = inl e
kept_member (taken t) x k (inr h) = inr (kept_member t x k h)

one_or_not : (p : List Term) → (p ≡ constant (pos 1)) ⊎ (p ≢ constant (pos 1))
one_or_not p = each (is_eq (poly_cmp (constant (pos 1)) p)) refl
  where
    each : (b : Bool) → is_eq (poly_cmp (constant (pos 1)) p) ≡ b → (p ≡ constant (pos 1)) ⊎ (p ≢ constant (pos 1))
    each true e = inl ((same_test (constant (pos 1)) p).0 e)
    each false e = inr (λ z. true≢false (sym ((same_test (constant (pos 1)) p).1 z) ∙ e))

-- 1 is not divided
pub one_whole : (units : List (List Term)) (n f d k : List Term) → IsDivision units n f (constant (pos 1)) d k → ⊥
one_whole units n f d k i = let l : leading_degree k < 0 = division_lowers units n f (constant (pos 1)) d k i in absurd (omega arith)

-- a polynomial that is a member is not divided any more
member_stays : {ns us : List (List Term)} {f g e h : List Term} → Contains ns g → IsDividedOut ns us f g e h → g ≡ h
member_stays m finished = refl
member_stays m (passed z r) = member_stays m r
member_stays m (divided i r) = absurd (i.apart m)

module _ (K : List Term → Type 0) (ns ks : List (List Term)) (within : (x : List Term) → Contains ks x → Contains ns x) where
  division_fewer : (n f g e h : List Term) → IsDivision ns n f g e h → IsDivision ks n f g e h
  division_fewer n f g e h i = record { in_form = i.in_form; nonzero = i.nonzero; apart = λ m. i.apart (within g m); quotient = i.quotient; factor = i.factor; whole = i.whole }

  division_more : (n f g e h : List Term) → (Contains ns g → ⊥) → IsDivision ks n f g e h → IsDivision ns n f g e h
  division_more n f g e h a i = record { in_form = i.in_form; nonzero = i.nonzero; apart = a; quotient = i.quotient; factor = i.factor; whole = i.whole }

  -- a run under fewer conditions makes the same divisions, where its divisors are kept, and its end too if it is a condition and not 1
  pub fewer_divisions : {us vs : List (List Term)} {f g e h : List Term} → IsThinned K us vs → ((n : List Term) → IsDividedOutBy ns n us f g → K n) → (Contains ns h → (h ≡ constant (pos 1)) ⊎ Contains ks h) → IsDividedOut ns us f g e h → IsDividedOut ks vs f g e h
  fewer_divisions nothing a c finished = finished
  fewer_divisions (dropped z t) a c (passed p r) = fewer_divisions t (λ n i. a n (by_later p i)) c r
  fewer_divisions (dropped z t) a c (divided d r) = absurd (z (a _ (by_first d)))
  fewer_divisions (taken t) a c (passed {n = n} {f = f} {g = g} {h = h} p r) = passed (λ d k i. p d k (division_more n f g d k (λ m. ended d k i m (c (subst (Contains ns) (member_stays m r) m))) i)) (fewer_divisions t (λ n i. a n (by_later p i)) c r)
    where
      ended : (d k : List Term) → IsDivision ks n f g d k → Contains ns g → (h ≡ constant (pos 1)) ⊎ Contains ks h → ⊥
      ended d k i m (inl e) = one_whole ks n f d k (subst (λ x. IsDivision ks n f x d k) (member_stays m r ∙ e) i)
      ended d k i m (inr x) = i.apart (subst (Contains ks) (sym (member_stays m r)) x)
  fewer_divisions (taken t) a c (divided d r) = divided (division_fewer _ _ _ _ _ d) (fewer_divisions (taken t) (λ n i. a n (after d i)) c r)

-- the variables of a monomial occur in it
later_occur : (p : ℕ × ℕ) (ps qs : List (ℕ × ℕ)) → IsBelow p.0 qs → AllByRecursion (λ (q : ℕ × ℕ). 0 < exponent ps q.0) qs → AllByRecursion (λ (q : ℕ × ℕ). 0 < exponent (p ∷ ps) q.0) qs
later_occur p ps [] b h = tt
later_occur p ps (q ∷ qs) b h =
    let first : exponent (p ∷ ps) q.0 ≡ exponent ps q.0 = exponent_there p ps q.0 (λ e. let l : q.0 < p.0 = b.0 in absurd (omega arith)) in
    (omega (arith, h.0), later_occur p ps qs b.1 h.1)

all_occur : (m : List (ℕ × ℕ)) → IsPowers m → AllByRecursion (λ (q : ℕ × ℕ). 0 < exponent m q.0) m
all_occur [] h = tt
all_occur (p ∷ ps) h =
    let first : exponent (p ∷ ps) p.0 ≡ p.1 = exponent_here p ps p.0 refl in
    (omega (arith, h.0), later_occur p ps ps h.1 (all_occur ps h.2))

row_divided : (t : Term) (us : List Term) (v : ℕ) → IsPowers t.monomial → AllByRecursion (λ (u : Term). IsMonomial u.monomial) us → 0 < exponent t.monomial v → IsDividedBy v (row t us)
row_divided t [] v h i l = tt
row_divided t (u ∷ us) v h i l =
    let e : exponent (monomial_times t.monomial u.monomial) v ≡ exponent t.monomial v + exponent u.monomial v = exponent-times t.monomial u.monomial v h i.0.powers in
    (omega arith, row_divided t us v h i.1 l)

module _ (K : List Term → Type 0) (ns ks : List (List Term)) (t : IsThinned K ns ks) (m : List Term) (p : IsPoly m) (rests : (n : List Term) → RestsOn ns m n → K n) where
  within : (x : List Term) → Contains ks x → Contains ns x
  within x h = holds-contains ns x (thinned_within t x (contains-holds ks x h))

  kept : (x : List Term) → K x → Contains ns x → Contains ks x
  kept x k h = holds-contains ks x (kept_member t x k (contains-holds ns x h))

  kept_variables : (qs : List (ℕ × ℕ)) (u : List (ℕ × ℕ)) → ((v : ℕ) → 0 < exponent u v → IsDividedBy v m) → AllByRecursion (λ (q : ℕ × ℕ). 0 < exponent u q.0) qs → AllByRecursion (λ (q : ℕ × ℕ). Contains ns (variable q.0)) qs → AllByRecursion (λ (q : ℕ × ℕ). Contains ks (variable q.0)) qs
  kept_variables [] u d h i = tt
  kept_variables (q ∷ qs) u d h i = (kept (variable q.0) (rests (variable q.0) (on_variable refl (d q.0 h.0))) i.0, kept_variables qs u d h.1 i.1)

  kept_factor : (f r : List Term) → IsStripped ns m f r → IsUnitTerm ks f
  kept_factor [] r s = absurd s.out
  kept_factor (a ∷ b ∷ bs) r s = absurd s.out
  kept_factor (a ∷ []) r s = kept_variables a.monomial a.monomial (λ v l. subst (IsDividedBy v) (row_of_stripped ns m a r p s) (row_divided a r v s.factor_poly.monomials.0.powers s.rest_poly.monomials l)) (all_occur a.monomial s.factor_poly.monomials.0.powers) s.out

  fewer_strip : (f r : List Term) → IsStripped ns m f r → IsStripped ks m f r
  fewer_strip f r s = record {
    factor_poly = s.factor_poly;
    rest_poly = s.rest_poly;
    product = s.product;
    primitive = s.primitive;
    divided = λ v c d. s.divided v (within (variable v) c) d;
    out = kept_factor f r s;
    zero_factor = s.zero_factor;
  }

  kept_end : (r : List Term) → (r ≢ constant (pos 1) → RestsOn ns m r) → Contains ns r → (r ≡ constant (pos 1)) ⊎ Contains ks r
  kept_end r on h = either (one_or_not r)
    where
      either : (r ≡ constant (pos 1)) ⊎ (r ≢ constant (pos 1)) → (r ≡ constant (pos 1)) ⊎ Contains ks r
      either (inl e) = inl e
      either (inr z) = inr (kept r (rests r (on z)) h)

  kept_rest : (r : List Term) → (r ≢ constant (pos 1) → RestsOn ns m r) → IsOneOrMember ns r → IsOneOrMember ks r
  kept_rest r on (inl e) = inl e
  kept_rest r on (inr h) = kept_end r on h

  fewer_clearing : (f r : List Term) → IsCleared ns m f r → IsCleared ks m f r
  fewer_clearing f r c = record {
    strip_factor = c.strip_factor;
    strip_rest = c.strip_rest;
    stripped = fewer_strip c.strip_factor c.strip_rest c.stripped;
    divided_out = fewer_divisions K ns ks within t (λ n i. rests n (on_divisor c.stripped i)) (kept_end r (λ z. on_clear_rest z c)) c.divided_out;
  }

  pub fewer_unit : IsUnit ns m → IsUnit ks m
  fewer_unit (inl u) = inl (record { factor = u.factor; rest = u.rest; stripped = fewer_strip u.factor u.rest u.stripped; member = kept_rest u.rest (λ z. on_strip_rest z u.stripped) u.member })
  fewer_unit (inr u) = inr (record { factor = u.factor; rest = u.rest; cleared = fewer_clearing u.factor u.rest u.cleared; member = kept_rest u.rest (λ z. on_clear_rest z u.cleared) u.member })
