-- A polynomial times a power of a variable that does not occur in it.
use Rattle.std.specs.Prelude.{◌≡◌, ◌≢◌, ◌<◌, ◌≤◌, ◌^◌, ℕ, zero, suc, ◌⊎◌, ◌==◌, Bool, true, false, nat_lt, max, pos, unsigned_abs, List, [], ◌∷◌, refl}
use mathlib.Core.Logic.{inl, inr}
use Rattle.std.proofs.Common.{arith, sym, ◌∙◌, ap, subst}
use Rattle.std.proofs.lemmas.Bool.Decides.{nat_tests, eqb_tells}
use Rattle.std.specs.List.{AllByRecursion}
use Rattle.std.specs.declared.cmp.Ordering.TheVariants.{Less}
use Rattle.std.specs.declared.option.Option.TheVariants.{None}
use Rattle.monomial.specs.Monomials.{exponent, monomial_cmp, monomial_times, too_high, IsPowers, IsMonomial}
use Rattle.monomial.proofs.Exponents.{exponent_here, exponent_there, exponent_above, exponent-times, IsPowers-times, IsMonomial-times}
use Rattle.monomial.proofs.Lower.{monomial_cmp-times}
use Rattle.sparse_poly.specs.declared.Term.{Term}
use Rattle.sparse_poly.specs.Contributions.{max_coeff, IsFalling, IsPoly, IsResult, IsFault}
use Rattle.sparse_poly.specs.declared.PolyFault.{PolyFault}
use Rattle.sparse_poly.specs.declared.PolyFault.TheVariants.{Degree, Heavy, OutOfMemory}
use Rattle.sparse_poly.proofs.Same.{same_polynomial}
use Rattle.sparse_poly.proofs.InOrder.{IsResult-own}
use Rattle.sparse_poly.specs.Reads.{degree_in}
use Rattle.pseudo_rem.specs.Steps.{raised, times_power, AreLow}

-- a monomial of small exponents is not of too high degree
too_high-small : (m : List (ℕ × ℕ)) → IsPowers m → ((w : ℕ) → exponent m w ≤ 65535) → too_high m ≡ None
too_high-small [] h s = refl
too_high-small (p ∷ ps) h s = small (nat_lt 65535 p.1) refl (too_high-small ps h.2 rest)
  where
    here : p.1 ≤ 65535
    here = let e = exponent_here p ps p.0 refl in let l = s p.0 in omega arith

    rest : (w : ℕ) → exponent ps w ≤ 65535
    rest w = either (eqb_tells p.0 w)
      where
        either : ((p.0 == w ≡ true) × (p.0 ≡ w)) ⊎ ((p.0 == w ≡ false) × (p.0 ≢ w)) → exponent ps w ≤ 65535
        either (inl (t, e)) = let z : exponent ps w ≡ 0 = exponent_above p.0 ps w h.1 (omega arith) in omega arith
        either (inr (t, n)) = let z = exponent_there p ps w n in let l = s w in omega arith

    small : (b : Bool) → nat_lt 65535 p.1 ≡ b → too_high ps ≡ None → too_high (p ∷ ps) ≡ None
    small true e r = absurd (contrary p.1 e here)
      where
        contrary : (n : ℕ) → nat_lt 65535 n ≡ true → n ≤ 65535 → ⊥
        contrary n e l = grind (arith, nat_tests)
    small false e r = rw e r

exponent-small : (m : List (ℕ × ℕ)) (w : ℕ) → AllByRecursion (λ (p : ℕ × ℕ). (p.0 < 2 ^ 32) × (p.1 ≤ 65535)) m → exponent m w ≤ 65535
exponent-small [] w h = omega arith
exponent-small (p ∷ ps) w h = either (exponent-small ps w h.1) (eqb_tells p.0 w)
  where
    either : exponent ps w ≤ 65535 → ((p.0 == w ≡ true) × (p.0 ≡ w)) ⊎ ((p.0 == w ≡ false) × (p.0 ≢ w)) → exponent (p ∷ ps) w ≤ 65535
    either l (inl (t, e)) = let z = exponent_here p ps w e in let k : p.1 ≤ 65535 = h.0.1 in omega arith
    either l (inr (t, n)) = let z = exponent_there p ps w n in omega arith

exponent_power : (v k w : ℕ) → exponent ((v, k) ∷ []) w ≤ k
exponent_power v k w = either (eqb_tells v w)
  where
    either : ((v == w ≡ true) × (v ≡ w)) ⊎ ((v == w ≡ false) × (v ≢ w)) → exponent ((v, k) ∷ []) w ≤ k
    either (inl (t, e)) = let z = exponent_here (v, k) [] w e in omega arith
    either (inr (t, n)) = let z = exponent_there (v, k) [] w n in let y : exponent [] w ≡ 0 = refl in omega arith

exponent_other : (v k w : ℕ) → v ≢ w → exponent ((v, k) ∷ []) w ≡ 0
exponent_other v k w n = exponent_there (v, k) [] w n

-- the product of a power and a monomial without its variable
product_low : (v k : ℕ) (m : List (ℕ × ℕ)) → suc k ≤ 65535 → IsMonomial m → exponent m v ≡ 0 → too_high (monomial_times ((v, suc k) ∷ []) m) ≡ None
product_low v k m s h z = too_high-small (monomial_times ((v, suc k) ∷ []) m) (IsPowers-times ((v, suc k) ∷ []) m power h.powers) low
  where
    power : IsPowers ((v, suc k) ∷ [])
    power = (omega arith, tt, tt)

    low : (w : ℕ) → exponent (monomial_times ((v, suc k) ∷ []) m) w ≤ 65535
    low w = either (eqb_tells v w)
      where
        either : ((v == w ≡ true) × (v ≡ w)) ⊎ ((v == w ≡ false) × (v ≢ w)) → exponent (monomial_times ((v, suc k) ∷ []) m) w ≤ 65535
        either (inl (t, e)) = let x = exponent-times ((v, suc k) ∷ []) m w power h.powers in let y = exponent_power v (suc k) w in let u : exponent m w ≡ 0 = subst (λ n. exponent m n ≡ 0) e z in omega arith
        either (inr (t, n)) = let x = exponent-times ((v, suc k) ∷ []) m w power h.powers in let y = exponent_other v (suc k) w n in let u = exponent-small m w h.in_range in omega arith

max_zero : (a b : ℕ) → max a b ≡ 0 → (a ≡ 0) × (b ≡ 0)
max_zero a b e = (omega arith, omega arith)

pub AreLow-power : (v k : ℕ) (ts : List Term) → suc k ≤ 65535 → AllByRecursion (λ (t : Term). IsMonomial t.monomial) ts → degree_in v ts ≡ 0 → AreLow ((v, suc k) ∷ []) ts
AreLow-power v k [] s h z = tt
AreLow-power v k (t ∷ ts) s h z = let e = max_zero (exponent t.monomial v) (degree_in v ts) z in (product_low v k t.monomial s h.0 e.0, AreLow-power v k ts s h.1 e.1)

raised_below : (m : List (ℕ × ℕ)) (t : Term) (us : List Term) → IsPowers m → IsMonomial t.monomial → AllByRecursion (λ (u : Term). IsMonomial u.monomial) us → AllByRecursion (λ (u : Term). monomial_cmp u.monomial t.monomial ≡ Less) us → AllByRecursion (λ (u : Term). monomial_cmp u.monomial (monomial_times m t.monomial) ≡ Less) (raised m us)
raised_below m t [] g h i a = tt
raised_below m t (u ∷ us) g h i a = (monomial_cmp-times m u.monomial t.monomial g i.0.powers h.powers a.0, raised_below m t us g h i.1 a.1)

raised_falls : (m : List (ℕ × ℕ)) (ts : List Term) → IsPowers m → AllByRecursion (λ (u : Term). IsMonomial u.monomial) ts → IsFalling ts → IsFalling (raised m ts)
raised_falls m [] g h f = tt
raised_falls m (t ∷ ts) g h f = (raised_below m t ts g h.0 h.1 f.0, raised_falls m ts g h.1 f.1)

raised_monomials : (m : List (ℕ × ℕ)) (ts : List Term) → IsMonomial m → AreLow m ts → AllByRecursion (λ (u : Term). IsMonomial u.monomial) ts → AllByRecursion (λ (u : Term). IsMonomial u.monomial) (raised m ts)
raised_monomials m [] g l h = tt
raised_monomials m (t ∷ ts) g l h = (IsMonomial-times m t.monomial g h.0 l.0, raised_monomials m ts g l.1 h.1)

raised_apart : (m : List (ℕ × ℕ)) (ts : List Term) → AllByRecursion (λ (u : Term). u.coeff ≢ pos 0) ts → AllByRecursion (λ (u : Term). u.coeff ≢ pos 0) (raised m ts)
raised_apart m [] h = tt
raised_apart m (t ∷ ts) h = (h.0, raised_apart m ts h.1)

raised_range : (m : List (ℕ × ℕ)) (ts : List Term) → AllByRecursion (λ (u : Term). unsigned_abs u.coeff ≤ max_coeff) ts → AllByRecursion (λ (u : Term). unsigned_abs u.coeff ≤ max_coeff) (raised m ts)
raised_range m [] h = tt
raised_range m (t ∷ ts) h = (h.0, raised_range m ts h.1)

pub IsPoly-raised : (m : List (ℕ × ℕ)) (ts : List Term) → IsMonomial m → AreLow m ts → IsPoly ts → IsPoly (raised m ts)
IsPoly-raised m ts g l p = record {
  falling = raised_falls m ts g.powers p.monomials p.falling;
  monomials = raised_monomials m ts g l p.monomials;
  apart = raised_apart m ts p.apart;
  in_range = raised_range m ts p.in_range;
}

-- no degree is above 65,535
pub degree_in-small : (v : ℕ) (ts : List Term) → AllByRecursion (λ (u : Term). IsMonomial u.monomial) ts → degree_in v ts ≤ 65535
degree_in-small v [] h = omega arith
degree_in-small v (t ∷ ts) h = let l = exponent-small t.monomial v h.0.in_range in let r = degree_in-small v ts h.1 in omega arith

pub AreLow-any : (v e : ℕ) (m : List (ℕ × ℕ)) (ts us : List Term) → m ≡ (v, e) ∷ [] → us ≡ ts → 0 < e → e ≤ 65535 → IsPoly ts → degree_in v ts ≡ 0 → AreLow m us
AreLow-any v zero m ts us i j some s p z = absurd (omega arith)
AreLow-any v (suc k) m ts us i j some s p z = subst (λ x. AreLow x us) (sym i) (subst (AreLow ((v, suc k) ∷ [])) (sym j) (AreLow-power v k ts s p.monomials z))

-- the terms that were made are a polynomial, and the product
pub record IsRaised (v e : ℕ) (ts items : List Term) : Type 0 where
  pub poly : IsPoly items
  pub is : items ≡ times_power v e ts

pub IsRaised-made : (v e : ℕ) (m : List (ℕ × ℕ)) (ts us items : List Term) → m ≡ (v, e) ∷ [] → us ≡ ts → items ≡ raised m us → 0 < e → e ≤ 65535 → v < 2 ^ 32 → IsPoly ts → degree_in v ts ≡ 0 → IsRaised v e ts items
IsRaised-made v zero m ts us items i j k some s b p z = absurd (omega arith)
IsRaised-made v (suc n) m ts us items i j k some s b p z =
    let own : items ≡ raised ((v, suc n) ∷ []) ts = k ∙ ap (λ x. raised x us) i ∙ ap (raised ((v, suc n) ∷ [])) j in
    let monomial : IsMonomial ((v, suc n) ∷ []) = record { powers = (omega arith, tt, tt); in_range = ((b, s), tt) } in
    record { poly = subst IsPoly (sym own) (IsPoly-raised ((v, suc n) ∷ []) ts monomial (AreLow-power v n ts s p.monomials z) p); is = own }

-- a polynomial's own terms are added up to itself, and not refused
pub own_result : (v e : ℕ) (ts items product : List Term) → IsRaised v e ts items → IsResult items product → product ≡ times_power v e ts
own_result v e ts items product r a = same_polynomial product items a.poly r.poly a.sums ∙ r.is

pub own_not_heavy : (items : List Term) (fault : PolyFault) (m : List (ℕ × ℕ)) → IsPoly items → fault ≡ Heavy m → IsFault items fault → ⊥
own_not_heavy items (Degree v) m p e h = absurd (cc e)
own_not_heavy items (Heavy n) m p e h = let l = (IsResult-own items p).light n in let k = h.1.heavy in absurd (omega arith)
own_not_heavy items OutOfMemory m p e h = absurd (cc e)
