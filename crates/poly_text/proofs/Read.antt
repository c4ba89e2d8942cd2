-- Terms that are a polynomial add up to it.
use Rattle.std.specs.Prelude.{◌≡◌, ℕ, zero, suc, ◌+◌, ◌<◌, ◌≤◌, true, ◌&&◌, nat_lt, if◌then◌else◌, unsigned_abs, List, [], ◌∷◌, ◌++◌, map, length, drop, refl, get_or}
use Rattle.std.proofs.Common.{sym, ◌∙◌, ap, subst, arith, append-nil}
use Rattle.std.proofs.lemmas.List.{drop_all}
use Rattle.std.specs.List.{AllByRecursion, list_all}
use Rattle.std.specs.Ordering.{is_eq}
use Rattle.std.specs.declared.cmp.Ordering.{Ordering}
use Rattle.std.specs.declared.cmp.Ordering.TheVariants.{Less, Equal, Greater}
use Rattle.monomial.specs.Monomials.{monomial_cmp, IsMonomial}
use Rattle.monomial.proofs.Total.{monomial_cmp-IsAntisymmetric}
use Rattle.sparse_poly.specs.declared.Term.{Term}
use Rattle.sparse_poly.specs.Polynomials.{weight}
use Rattle.sparse_poly.specs.Contributions.{IsPoly, IsFalling, IsResult, IsFault, IsNoDegree, IsHeaviest, max_coeff}
use Rattle.sparse_poly.specs.declared.PolyFault.{PolyFault}
use Rattle.sparse_poly.specs.declared.PolyFault.TheVariants.{Degree, Heavy, OutOfMemory}
use Rattle.sparse_poly.proofs.Same.{same_polynomial}
use Rattle.poly_text.proofs.Digits.{below_test}
use Rattle.poly_text.specs.Numbers.{IsFactorInRange, AreInRange}
use Rattle.poly_text.specs.Raw.{raw}
use Rattle.poly_text.specs.Reading.{uses_below}
use Rattle.poly_text.specs.declared.raw.RawTerm.{RawTerm}
use Rattle.sparse_poly.proofs.InOrder.{weight_above}

pub one_result : (ts p : List Term) → IsPoly ts → IsResult ts p → p ≡ ts
one_result ts p h r = same_polynomial p ts r.poly h r.sums

weight_falling : (m : List (ℕ × ℕ)) (ts : List Term) → IsFalling ts → AllByRecursion (λ (t : Term). unsigned_abs t.coeff ≤ max_coeff) ts → weight ts m ≤ max_coeff
weight_falling m [] f h = omega arith
weight_falling m (t ∷ ts) f h = by (monomial_cmp m t.monomial) refl (weight_falling m ts f.1 h.1)
  where
    below : weight ts t.monomial ≡ 0
    below = weight_above t.monomial ts f.0

    by : (o : Ordering) → monomial_cmp m t.monomial ≡ o → weight ts m ≤ max_coeff → (if is_eq o then unsigned_abs t.coeff else 0) + weight ts m ≤ max_coeff
    by Less e k = omega arith
    by Greater e k = omega arith
    by Equal e k =
        let z : weight ts m ≡ 0 = ap (weight ts) (monomial_cmp-IsAntisymmetric m t.monomial e) ∙ below in
        let a = h.0 in omega (arith, z)

-- a polynomial's terms are not heavy
pub not_heavy : (ts : List Term) (m : List (ℕ × ℕ)) → IsPoly ts → IsHeaviest ts m → ⊥
not_heavy ts m h k = let a = weight_falling m ts h.falling h.in_range in let b = k.heavy in absurd (omega arith)

monomial_in : (ts : List RawTerm) (i : ℕ) (t : RawTerm) → AllByRecursion (λ (u : Term). IsMonomial u.monomial) (map raw ts) → i < length ts → t ≡ get_or ts i t → IsMonomial t.powers.items
monomial_in [] i t h l e = absurd (omega arith)
monomial_in (s ∷ ss) zero t h l e = subst (λ (r : RawTerm). IsMonomial r.powers.items) (sym e) h.0
monomial_in (s ∷ ss) (suc i) t h l e = monomial_in ss i t h.1 (omega arith) e

pub monomial_at : (ts : List RawTerm) (i : ℕ) (t : RawTerm) → IsPoly (map raw ts) → i < length ts → t ≡ get_or ts i t → IsMonomial t.powers.items
monomial_at ts i t h l e = monomial_in ts i t h.monomials l e

factors_below : (u : ℕ) (ps : List (ℕ × ℕ)) → AllByRecursion (IsFactorInRange u) ps → list_all (λ (p : ℕ × ℕ). nat_lt p.0 u) ps ≡ true
factors_below u [] h = refl
factors_below u (p ∷ ps) h = ap (λ b. b && list_all (λ (p : ℕ × ℕ). nat_lt p.0 u) ps) (below_test p.0 u h.0.0) ∙ factors_below u ps h.1

pub terms_below : (u : ℕ) (ts : List Term) → AreInRange u ts → uses_below u ts ≡ true
terms_below u [] h = refl
terms_below u (t ∷ ts) h = ap (λ b. b && uses_below u ts) (factors_below u t.monomial h.0.factors) ∙ terms_below u ts h.1

-- a polynomial's terms add up without a fault
pub no_fault : (ts : List Term) (fault : PolyFault) → IsPoly ts → IsFault ts fault → IsNoDegree fault → (fault ≡ OutOfMemory → ⊥) → ⊥
no_fault ts (Degree v) h f d n = d
no_fault ts (Heavy m) h f d n = not_heavy ts m h f.1
no_fault ts OutOfMemory h f d n = n refl

-- the terms that were taken from the whole list
pub all_taken : (ts : List RawTerm) (n : ℕ) (taken : List Term) → taken ++ map raw (drop n ts) ≡ map raw ts → length ts ≤ n → taken ≡ map raw ts
all_taken ts n taken e h = sym (ap (λ l. taken ++ map raw l) (drop_all n ts h) ∙ append-nil taken) ∙ e
