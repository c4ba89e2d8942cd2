-- In l*q - a*p the terms of the highest power of the variable cancel.
use Rattle.std.specs.Prelude.{◌≡◌, ◌≢◌, ◌<◌, ◌≤◌, ℕ, zero, suc, ◌+◌, ◌-◌, ◌⊎◌, ◌==◌, true, false, if◌then◌else◌, max, ℤ, pos, neg_ℤ, ◌+ℤ◌, ◌*ℤ◌, List, [], ◌∷◌, refl}
use mathlib.Core.Logic.{inl, inr}
use Rattle.std.proofs.Common.{arith, sym, ◌∙◌, ap, subst}
use Rattle.std.proofs.lemmas.Int.{ints}
use Rattle.std.proofs.lemmas.Bool.Decides.{eqb_tells}
use Rattle.std.proofs.Math.IntN.{*ℤ_comm}
use Rattle.monomial.specs.Monomials.{exponent, monomial_times, without, IsPowers}
use Rattle.monomial.proofs.Exponents.{exponent_here, exponent_there, exponent-times, IsPowers-times, IsPowers-without, exponent-without, exponent-without_own, same_from_exponents}
use Rattle.sparse_poly.specs.declared.Term.{Term}
use Rattle.sparse_poly.specs.Polynomials.{is_of, coefficient, term_times, row, products, negated}
use Rattle.sparse_poly.specs.OrderLaws.{same_term}
use Rattle.sparse_poly.specs.Reads.{degree_in, coefficient_of_power, leading_in}
use Rattle.sparse_poly.proofs.Evaluation.{zero_plus, coefficient-append, coefficient-negated}
use Rattle.pseudo_rem.specs.Steps.{times_power, cofactor, step_contributions, CanReduce}
use Rattle.pseudo_rem.proofs.Degrees.{AllPowers, degree_in-products, coefficient_beyond, no_share}

-- a term without a variable, and times a power of it
abbrev bare : ℕ → Term → Term
bare v t = record { monomial = without v t.monomial; coeff = t.coeff }

abbrev lifted : ℕ → ℕ → Term → Term
lifted v zero t = t
lifted v (suc k) t = record { monomial = monomial_times ((v, suc k) ∷ []) t.monomial; coeff = t.coeff }

times_power-nil : (v k : ℕ) → times_power v k [] ≡ []
times_power-nil v zero = refl
times_power-nil v (suc k) = refl

times_power-cons : (v k : ℕ) (t : Term) (ts : List Term) → times_power v k (t ∷ ts) ≡ lifted v k t ∷ times_power v k ts
times_power-cons v zero t ts = refl
times_power-cons v (suc k) t ts = refl

power_powers : (v k : ℕ) → IsPowers ((v, suc k) ∷ [])
power_powers v k = (omega arith, tt, tt)

lifted_powers : (v k : ℕ) (t : Term) → IsPowers t.monomial → IsPowers (lifted v k t).monomial
lifted_powers v zero t h = h
lifted_powers v (suc k) t h = IsPowers-times ((v, suc k) ∷ []) t.monomial (power_powers v k) h

lifted_own : (v k : ℕ) (t : Term) → IsPowers t.monomial → exponent (lifted v k t).monomial v ≡ k + exponent t.monomial v
lifted_own v zero t h = omega arith
lifted_own v (suc k) t h = exponent-times ((v, suc k) ∷ []) t.monomial v (power_powers v k) h ∙ ap (λ n. n + exponent t.monomial v) (exponent_here (v, suc k) [] v refl)

lifted_other : (v k w : ℕ) (t : Term) → v ≢ w → IsPowers t.monomial → exponent (lifted v k t).monomial w ≡ exponent t.monomial w
lifted_other v zero w t n h = refl
lifted_other v (suc k) w t n h = let both = exponent-times ((v, suc k) ∷ []) t.monomial w (power_powers v k) h in let none : exponent ((v, suc k) ∷ []) w ≡ 0 = exponent_there (v, suc k) [] w n in omega (arith, both, none)

lifted_coeff : (v k : ℕ) (t : Term) → (lifted v k t).coeff ≡ t.coeff
lifted_coeff v zero t = refl
lifted_coeff v (suc k) t = refl

pub times_power_powers : (v k : ℕ) (ts : List Term) → AllPowers ts → AllPowers (times_power v k ts)
times_power_powers v k [] h = subst AllPowers (sym (times_power-nil v k)) tt
times_power_powers v k (t ∷ ts) h = subst AllPowers (sym (times_power-cons v k t ts)) (lifted_powers v k t h.0, times_power_powers v k ts h.1)

pub degree_in-times_power : (v k : ℕ) (ts : List Term) → AllPowers ts → degree_in v (times_power v k ts) ≤ k + degree_in v ts
degree_in-times_power v k [] h = subst (λ x. degree_in v x ≤ k + 0) (sym (times_power-nil v k)) (omega arith)
degree_in-times_power v k (t ∷ ts) h = let rest = degree_in-times_power v k ts h.1 in let first = lifted_own v k t h.0 in subst (λ x. degree_in v x ≤ k + degree_in v (t ∷ ts)) (sym (times_power-cons v k t ts)) (omega (arith, rest, first))

pub degree_in-times_other : (v k w : ℕ) (ts : List Term) → v ≢ w → AllPowers ts → degree_in w (times_power v k ts) ≡ degree_in w ts
degree_in-times_other v k w [] n h = ap (degree_in w) (times_power-nil v k)
degree_in-times_other v k w (t ∷ ts) n h = ap (degree_in w) (times_power-cons v k t ts) ∙ ap (λ x. max x (degree_in w (times_power v k ts))) (lifted_other v k w t n h.0) ∙ ap (max (exponent t.monomial w)) (degree_in-times_other v k w ts n h.1)

-- the coefficient of a power: term by term
taken : (v k : ℕ) (t : Term) (ts : List Term) → (exponent t.monomial v == k ≡ true) → coefficient_of_power v k (t ∷ ts) ≡ bare v t ∷ coefficient_of_power v k ts
taken v k t ts e = rw e refl

left_out : (v k : ℕ) (t : Term) (ts : List Term) → (exponent t.monomial v == k ≡ false) → coefficient_of_power v k (t ∷ ts) ≡ coefficient_of_power v k ts
left_out v k t ts e = rw e refl

pub coefficient_powers : (v k : ℕ) (ts : List Term) → AllPowers ts → AllPowers (coefficient_of_power v k ts)
coefficient_powers v k [] h = tt
coefficient_powers v k (t ∷ ts) h = either (coefficient_powers v k ts h.1) (eqb_tells (exponent t.monomial v) k)
  where
    either : AllPowers (coefficient_of_power v k ts) → ((exponent t.monomial v == k ≡ true) × (exponent t.monomial v ≡ k)) ⊎ ((exponent t.monomial v == k ≡ false) × (exponent t.monomial v ≢ k)) → AllPowers (coefficient_of_power v k (t ∷ ts))
    either r (inl (e, s)) = subst AllPowers (sym (taken v k t ts e)) (IsPowers-without v t.monomial h.0, r)
    either r (inr (e, s)) = subst AllPowers (sym (left_out v k t ts e)) r

pub degree_in-coefficient : (v k : ℕ) (ts : List Term) → degree_in v (coefficient_of_power v k ts) ≡ 0
degree_in-coefficient v k [] = refl
degree_in-coefficient v k (t ∷ ts) = either (degree_in-coefficient v k ts) (eqb_tells (exponent t.monomial v) k)
  where
    either : degree_in v (coefficient_of_power v k ts) ≡ 0 → ((exponent t.monomial v == k ≡ true) × (exponent t.monomial v ≡ k)) ⊎ ((exponent t.monomial v == k ≡ false) × (exponent t.monomial v ≢ k)) → degree_in v (coefficient_of_power v k (t ∷ ts)) ≡ 0
    either r (inl (e, s)) = ap (degree_in v) (taken v k t ts e) ∙ (let own = exponent-without_own v t.monomial in omega (arith, own, r))
    either r (inr (e, s)) = ap (degree_in v) (left_out v k t ts e) ∙ r

pub coefficient_below : (v k w : ℕ) (ts : List Term) → v ≢ w → degree_in w (coefficient_of_power v k ts) ≤ degree_in w ts
coefficient_below v k w [] n = omega arith
coefficient_below v k w (t ∷ ts) n = either (coefficient_below v k w ts n) (eqb_tells (exponent t.monomial v) k)
  where
    either : degree_in w (coefficient_of_power v k ts) ≤ degree_in w ts → ((exponent t.monomial v == k ≡ true) × (exponent t.monomial v ≡ k)) ⊎ ((exponent t.monomial v == k ≡ false) × (exponent t.monomial v ≢ k)) → degree_in w (coefficient_of_power v k (t ∷ ts)) ≤ degree_in w (t ∷ ts)
    either r (inl (e, s)) = subst (λ x. degree_in w x ≤ degree_in w (t ∷ ts)) (sym (taken v k t ts e)) (let same = exponent-without v w t.monomial n in omega (arith, same, r))
    either r (inr (e, s)) = subst (λ x. degree_in w x ≤ degree_in w (t ∷ ts)) (sym (left_out v k t ts e)) (omega (arith, r))

-- products, by the terms of the second factor
products-nil : (ts : List Term) → products ts [] ≡ []
products-nil [] = refl
products-nil (t ∷ ts) = products-nil ts

products-second : (m : List (ℕ × ℕ)) (ts : List Term) (u : Term) (us : List Term) → coefficient (products ts (u ∷ us)) m ≡ coefficient (products ts (u ∷ [])) m +ℤ coefficient (products ts us) m
products-second m [] u us = refl
products-second m (t ∷ ts) u us =
    let all = coefficient-append m (row t us) (products ts (u ∷ us)) in
    let others = coefficient-append m (row t us) (products ts us) in
    let rest = products-second m ts u us in
    regroup _ _ _ _ _ _ _ all others rest
  where
    regroup : (s r a b o x y : ℤ) → x ≡ r +ℤ a → y ≡ r +ℤ o → a ≡ b +ℤ o → s +ℤ x ≡ (s +ℤ b) +ℤ y
    regroup s r a b o x y e f g = omega (arith, ints)

module _ (v d e : ℕ) (m : List (ℕ × ℕ)) (le : d ≤ e) (high : e ≤ exponent m v) where
  -- the leading coefficient of q times the power that is left
  abbrev lead : List Term → List Term
  lead us = times_power v (e - d) (coefficient_of_power v e us)

  lead_powers : (us : List Term) → AllPowers us → AllPowers (lead us)
  lead_powers us h = times_power_powers v (e - d) (coefficient_of_power v e us) (coefficient_powers v e us h)

  -- a term of lower degree in p has no share
  low_row : (t : Term) (us : List Term) → IsPowers t.monomial → exponent t.monomial v < d → AllPowers us → coefficient (products (lead us) (t ∷ [])) m ≡ pos 0
  low_row t us h l i =
      let powers = lead_powers us i in
      let product = degree_in-products v (lead us) (t ∷ []) powers (h, tt) in
      let factor = degree_in-times_power v (e - d) (coefficient_of_power v e us) (coefficient_powers v e us i) in
      let none = degree_in-coefficient v e us in
      coefficient_beyond v (products (lead us) (t ∷ [])) m (omega (arith, product, factor, none, l, le, high))

  -- the product of two terms of the highest degrees, on both sides
  same_pair : (t u : Term) → IsPowers t.monomial → IsPowers u.monomial → exponent t.monomial v ≡ d → exponent u.monomial v ≡ e → term_times (bare v t) u ≡ term_times (lifted v (e - d) (bare v u)) t
  same_pair t u h i s r = same_term _ _ (same_from_exponents _ _ (IsPowers-times _ _ (IsPowers-without v t.monomial h) i) (IsPowers-times _ _ (lifted_powers v (e - d) (bare v u) (IsPowers-without v u.monomial i)) h) at) (*ℤ_comm t.coeff u.coeff ∙ ap (λ z. z *ℤ t.coeff) (sym (lifted_coeff v (e - d) (bare v u))))
    where
      at : (w : ℕ) → exponent (monomial_times (without v t.monomial) u.monomial) w ≡ exponent (monomial_times (lifted v (e - d) (bare v u)).monomial t.monomial) w
      at w =
          exponent-times (without v t.monomial) u.monomial w (IsPowers-without v t.monomial h) i
          ∙ each w (eqb_tells v w)
          ∙ sym (exponent-times (lifted v (e - d) (bare v u)).monomial t.monomial w (lifted_powers v (e - d) (bare v u) (IsPowers-without v u.monomial i)) h)
        where
          each : (w : ℕ) → ((v == w ≡ true) × (v ≡ w)) ⊎ ((v == w ≡ false) × (v ≢ w)) → exponent (without v t.monomial) w + exponent u.monomial w ≡ exponent (lifted v (e - d) (bare v u)).monomial w + exponent t.monomial w
          each w (inl (b, f)) =
              subst (λ x. exponent (without v t.monomial) x + exponent u.monomial x ≡ exponent (lifted v (e - d) (bare v u)).monomial x + exponent t.monomial x) f
              (let own = exponent-without_own v t.monomial in
              let other = exponent-without_own v u.monomial in
              let lift = lifted_own v (e - d) (bare v u) (IsPowers-without v u.monomial i) in
              omega (arith, own, other, lift, s, r, le))
          each w (inr (b, n)) =
              let own = exponent-without v w t.monomial n in
              let other = exponent-without v w u.monomial n in
              let lift = lifted_other v (e - d) w (bare v u) n (IsPowers-without v u.monomial i) in
              omega (arith, own, other, lift)

  -- a term of the highest degree in p meets those of the highest degree in q alone
  top_row : (t : Term) (us : List Term) → IsPowers t.monomial → exponent t.monomial v ≡ d → AllPowers us → degree_in v us ≤ e → coefficient (row (bare v t) us) m ≡ coefficient (products (lead us) (t ∷ [])) m
  top_row t [] h s i l = ap (λ x. coefficient (products x (t ∷ [])) m) (sym (times_power-nil v (e - d)))
  top_row t (u ∷ us) h s i l = each (top_row t us h s i.1 (omega (arith, l))) (eqb_tells (exponent u.monomial v) e)
    where
      each : coefficient (row (bare v t) us) m ≡ coefficient (products (lead us) (t ∷ [])) m → ((exponent u.monomial v == e ≡ true) × (exponent u.monomial v ≡ e)) ⊎ ((exponent u.monomial v == e ≡ false) × (exponent u.monomial v ≢ e)) → coefficient (row (bare v t) (u ∷ us)) m ≡ coefficient (products (lead (u ∷ us)) (t ∷ [])) m
      each rest (inl (b, f)) =
          ap (λ z. (if is_of m (term_times (bare v t) u) then (term_times (bare v t) u).coeff else pos 0) +ℤ z) rest
          ∙ ap (λ (x : Term). coefficient (x ∷ products (lead us) (t ∷ [])) m) (same_pair t u h i.0 s f)
          ∙ ap (λ x. coefficient (products x (t ∷ [])) m) (sym (ap (times_power v (e - d)) (taken v e u us b) ∙ times_power-cons v (e - d) (bare v u) (coefficient_of_power v e us)))
      each rest (inr (b, n)) =
          let own = exponent-without_own v t.monomial in
          let product = exponent-times (without v t.monomial) u.monomial v (IsPowers-without v t.monomial h) i.0 in
          ap (λ z. z +ℤ coefficient (row (bare v t) us) m) (no_share v m (term_times (bare v t) u) (omega (arith, own, product, l, high, n)))
          ∙ zero_plus _ ∙ rest
          ∙ ap (λ x. coefficient (products x (t ∷ [])) m) (sym (ap (times_power v (e - d)) (left_out v e u us b)))

  -- l*q and a*p have the same coefficients from the highest power on
  pub same_top : (ts us : List Term) → AllPowers ts → AllPowers us → degree_in v ts ≤ d → degree_in v us ≤ e → coefficient (products (coefficient_of_power v d ts) us) m ≡ coefficient (products (lead us) ts) m
  same_top [] us h i l k = ap (λ x. coefficient x m) (sym (products-nil (lead us)))
  same_top (t ∷ ts) us h i l k = each (same_top ts us h.1 i (omega (arith, l)) k) (eqb_tells (exponent t.monomial v) d)
    where
      each : coefficient (products (coefficient_of_power v d ts) us) m ≡ coefficient (products (lead us) ts) m → ((exponent t.monomial v == d ≡ true) × (exponent t.monomial v ≡ d)) ⊎ ((exponent t.monomial v == d ≡ false) × (exponent t.monomial v ≢ d)) → coefficient (products (coefficient_of_power v d (t ∷ ts)) us) m ≡ coefficient (products (lead us) (t ∷ ts)) m
      each rest (inl (b, s)) =
          ap (λ x. coefficient (products x us) m) (taken v d t ts b)
          ∙ coefficient-append m (row (bare v t) us) (products (coefficient_of_power v d ts) us)
          ∙ ap (λ z. z +ℤ coefficient (products (coefficient_of_power v d ts) us) m) (top_row t us h.0 s i k)
          ∙ ap (λ z. coefficient (products (lead us) (t ∷ [])) m +ℤ z) rest
          ∙ sym (products-second m (lead us) t ts)
      each rest (inr (b, n)) =
          ap (λ x. coefficient (products x us) m) (left_out v d t ts b)
          ∙ rest ∙ sym (zero_plus _)
          ∙ ap (λ z. z +ℤ coefficient (products (lead us) ts) m) (sym (low_row t us h.0 (omega (arith, l, n)) i))
          ∙ sym (products-second m (lead us) t ts)

-- l*q - a*p has no coefficient from the degree of q on
pub cancelled : (v : ℕ) (q p : List Term) (m : List (ℕ × ℕ)) → AllPowers q → AllPowers p → CanReduce q p v → degree_in v q ≤ exponent m v → coefficient (step_contributions v q p) m ≡ pos 0
cancelled v q p m h i c l =
    coefficient-append m (products (leading_in v p) q) (negated (products (cofactor v q p) p))
    ∙ ap (λ z. coefficient (products (leading_in v p) q) m +ℤ z) (coefficient-negated m (products (cofactor v q p) p))
    ∙ nothing _ _ (same_top v (degree_in v p) (degree_in v q) m c.below l p q i h (omega arith) (omega arith))
  where
    nothing : (x y : ℤ) → x ≡ y → x +ℤ neg_ℤ y ≡ pos 0
    nothing x y e = omega (arith, ints)
