-- The greatest variable that occurs, and the greatest one of too high degree.
use Rattle.std.specs.Prelude.{◌≡◌, ◌≢◌, ◌<◌, ◌≤◌, ℕ, ◌+◌, true, false, nat_lt, if◌then◌else◌, ◌==◌, List, [], ◌∷◌, refl}
use mathlib.Core.Logic.{◌⊎◌, inl, inr}
use Rattle.std.proofs.Common.{arith, sym, ◌∙◌, ap, subst}
use Rattle.std.proofs.lemmas.Bool.Decides.{nat_tests, eqb_tells}
use Rattle.std.specs.declared.option.Option.{Option}
use Rattle.std.specs.declared.option.Option.TheVariants.{None, Some}
use Rattle.monomial.specs.Monomials.{exponent, top, too_high, monomial_times, IsPowers, IsGreatestAbove}
use Rattle.monomial.proofs.Exponents.{exponent_here, exponent_there, exponent_above, exponent-times, IsPowers-times}
use Rattle.monomial.proofs.Lower.{low_place}

-- the first variable
first_above : (n : ℕ) (p : ℕ × ℕ) (ps : List (ℕ × ℕ)) → n < p.1 → IsPowers (p ∷ ps) → IsGreatestAbove n (exponent (p ∷ ps)) p.0
first_above n p ps l h = record {
  above = omega (arith, exponent_here p ps p.0 refl);
  greatest = λ w k. omega (arith, exponent_there p ps w (λ e. absurd (omega arith)), exponent_above p.0 ps w h.1 (omega arith));
}

is_first : (n : ℕ) (p : ℕ × ℕ) (ps : List (ℕ × ℕ)) (v : ℕ) → n < p.1 → IsPowers (p ∷ ps) → IsGreatestAbove n (exponent (p ∷ ps)) v → p.0 ≡ v
is_first n p ps v l h g =
    let below : v < p.0 → ⊥ = λ k. absurd (omega (arith, g.greatest p.0 k, exponent_here p ps p.0 refl)) in
    let above : p.0 < v → ⊥ = λ k. absurd (omega (arith, g.above, exponent_there p ps v (λ e. absurd (omega arith)), exponent_above p.0 ps v h.1 (omega arith))) in
    omega (arith, below, above)

pub top-greatest : (m : List (ℕ × ℕ)) (v : ℕ) → IsPowers m → top m ≡ Some v → IsGreatestAbove 0 (exponent m) v
top-greatest [] v h e = absurd (cc e)
top-greatest (p ∷ ps) v h e = let same : p.0 ≡ v = cc e in subst (IsGreatestAbove 0 (exponent (p ∷ ps))) same (first_above 0 p ps h.0 h)

pub greatest-top : (m : List (ℕ × ℕ)) (v : ℕ) → IsPowers m → IsGreatestAbove 0 (exponent m) v → top m ≡ Some v
greatest-top [] v h g = absurd (omega (arith, g.above))
greatest-top (p ∷ ps) v h g = ap Some (is_first 0 p ps v h.0 h g)

pub top-none : (m : List (ℕ × ℕ)) → top m ≡ None → (v : ℕ) → exponent m v ≡ 0
top-none [] e v = refl
top-none (p ∷ ps) e v = absurd (cc e)

pub none-top : (m : List (ℕ × ℕ)) → IsPowers m → ((v : ℕ) → exponent m v ≡ 0) → top m ≡ None
none-top [] h f = refl
none-top (p ∷ ps) h f = let some : 0 < p.1 = h.0 in absurd (omega (arith, f p.0, exponent_here p ps p.0 refl))

-- the greatest variable of too high degree
high_step : (p : ℕ × ℕ) (ps : List (ℕ × ℕ)) → ((65535 < p.1) × (too_high (p ∷ ps) ≡ Some p.0)) ⊎ ((p.1 ≤ 65535) × (too_high (p ∷ ps) ≡ too_high ps))
high_step p ps =
    elim (nat_lt 65535 p.1) as (λ b. nat_lt 65535 p.1 ≡ b → ((65535 < p.1) × ((if b then Some p.0 else too_high ps) ≡ Some p.0)) ⊎ ((p.1 ≤ 65535) × ((if b then Some p.0 else too_high ps) ≡ too_high ps))) [
      | true ↦ λ e. inl (above p.1 e, refl)
      | false ↦ λ e. inr (within p.1 e, refl)
    ] refl
  where
    above : (n : ℕ) → nat_lt 65535 n ≡ true → 65535 < n
    above n e = grind (arith, nat_tests)

    within : (n : ℕ) → nat_lt 65535 n ≡ false → n ≤ 65535
    within n e = grind (arith, nat_tests)

pub too_high-greatest : (m : List (ℕ × ℕ)) (v : ℕ) → IsPowers m → too_high m ≡ Some v → IsGreatestAbove 65535 (exponent m) v
too_high-greatest [] v h e = absurd (cc e)
too_high-greatest (p ∷ ps) v h e = each (λ k. too_high-greatest ps v h.2 k) (high_step p ps)
  where
    later : p.1 ≤ 65535 → IsGreatestAbove 65535 (exponent ps) v → IsGreatestAbove 65535 (exponent (p ∷ ps)) v
    later l g =
        let low : v < p.0 = low_place p ps v 65535 h.1 g.above in
        record {
          above = omega (arith, g.above, exponent_there p ps v (λ k. absurd (omega arith)));
          greatest = λ w k. at_each w k (eqb_tells p.0 w);
        }
      where
        at_each : (w : ℕ) → v < w → ((p.0 == w ≡ true) × (p.0 ≡ w)) ⊎ ((p.0 == w ≡ false) × (p.0 ≢ w)) → exponent (p ∷ ps) w ≤ 65535
        at_each w k (inl (t, s)) = omega (arith, exponent_here p ps w s)
        at_each w k (inr (t, s)) = omega (arith, exponent_there p ps w s, g.greatest w k)

    each : (too_high ps ≡ Some v → IsGreatestAbove 65535 (exponent ps) v) → ((65535 < p.1) × (too_high (p ∷ ps) ≡ Some p.0)) ⊎ ((p.1 ≤ 65535) × (too_high (p ∷ ps) ≡ too_high ps)) → IsGreatestAbove 65535 (exponent (p ∷ ps)) v
    each rest (inl (l, s)) = let same : p.0 ≡ v = cc (s, e) in subst (IsGreatestAbove 65535 (exponent (p ∷ ps))) same (first_above 65535 p ps l h)
    each rest (inr (l, s)) = later l (rest (sym s ∙ e))

pub greatest-too_high : (m : List (ℕ × ℕ)) (v : ℕ) → IsPowers m → IsGreatestAbove 65535 (exponent m) v → too_high m ≡ Some v
greatest-too_high [] v h g = absurd (omega (arith, g.above))
greatest-too_high (p ∷ ps) v h g = each (λ k. greatest-too_high ps v h.2 k) (high_step p ps)
  where
    later : p.1 ≤ 65535 → IsGreatestAbove 65535 (exponent ps) v
    later l =
        let away : p.0 ≢ v = λ e. absurd (omega (arith, g.above, exponent_here p ps v e)) in
        record {
          above = omega (arith, g.above, exponent_there p ps v away);
          greatest = λ w k. at_each w k (eqb_tells p.0 w);
        }
      where
        at_each : (w : ℕ) → v < w → ((p.0 == w ≡ true) × (p.0 ≡ w)) ⊎ ((p.0 == w ≡ false) × (p.0 ≢ w)) → exponent ps w ≤ 65535
        at_each w k (inl (t, s)) = omega (arith, exponent_above p.0 ps w h.1 (omega arith))
        at_each w k (inr (t, s)) = omega (arith, exponent_there p ps w s, g.greatest w k)

    each : (IsGreatestAbove 65535 (exponent ps) v → too_high ps ≡ Some v) → ((65535 < p.1) × (too_high (p ∷ ps) ≡ Some p.0)) ⊎ ((p.1 ≤ 65535) × (too_high (p ∷ ps) ≡ too_high ps)) → too_high (p ∷ ps) ≡ Some v
    each rest (inl (l, s)) = s ∙ ap Some (is_first 65535 p ps v l h g)
    each rest (inr (l, s)) = s ∙ rest (later l)

pub too_high-none : (m : List (ℕ × ℕ)) → too_high m ≡ None → (v : ℕ) → exponent m v ≤ 65535
too_high-none [] e v = omega arith
too_high-none (p ∷ ps) e v = each (λ k. too_high-none ps k v) (high_step p ps) (eqb_tells p.0 v)
  where
    each : (too_high ps ≡ None → exponent ps v ≤ 65535) → ((65535 < p.1) × (too_high (p ∷ ps) ≡ Some p.0)) ⊎ ((p.1 ≤ 65535) × (too_high (p ∷ ps) ≡ too_high ps)) → ((p.0 == v ≡ true) × (p.0 ≡ v)) ⊎ ((p.0 == v ≡ false) × (p.0 ≢ v)) → exponent (p ∷ ps) v ≤ 65535
    each rest (inl (l, s)) k = absurd (cc (s, e))
    each rest (inr (l, s)) (inl (t, k)) = omega (arith, exponent_here p ps v k)
    each rest (inr (l, s)) (inr (t, k)) = omega (arith, exponent_there p ps v k, rest (sym s ∙ e))

pub none-too_high : (m : List (ℕ × ℕ)) → IsPowers m → ((v : ℕ) → exponent m v ≤ 65535) → too_high m ≡ None
none-too_high m h f = each (too_high m) refl
  where
    each : (o : Option ℕ) → too_high m ≡ o → too_high m ≡ None
    each None e = e
    each (Some v) e = let g = too_high-greatest m v h e in absurd (omega (arith, f v, g.above))

-- in a product
pub greatest_of_same : (n : ℕ) (f g : ℕ → ℕ) (v : ℕ) → ((w : ℕ) → f w ≡ g w) → IsGreatestAbove n f v → IsGreatestAbove n g v
greatest_of_same n f g v e h = record {
  above = omega (arith, h.above, e v);
  greatest = λ w l. omega (arith, h.greatest w l, e w);
}

pub product-greatest : (a b : List (ℕ × ℕ)) (v : ℕ) → IsPowers a → IsPowers b → too_high (monomial_times a b) ≡ Some v → IsGreatestAbove 65535 (λ w. exponent a w + exponent b w) v
product-greatest a b v h i e =
    greatest_of_same 65535 (exponent (monomial_times a b)) (λ w. exponent a w + exponent b w) v (λ w. exponent-times a b w h i) (too_high-greatest (monomial_times a b) v (IsPowers-times a b h i) e)

pub greatest-product : (a b : List (ℕ × ℕ)) (v : ℕ) → IsPowers a → IsPowers b → IsGreatestAbove 65535 (λ w. exponent a w + exponent b w) v → too_high (monomial_times a b) ≡ Some v
greatest-product a b v h i g =
    greatest-too_high (monomial_times a b) v (IsPowers-times a b h i) (greatest_of_same 65535 (λ w. exponent a w + exponent b w) (exponent (monomial_times a b)) v (λ w. sym (exponent-times a b w h i)) g)

pub product-none : (a b : List (ℕ × ℕ)) → IsPowers a → IsPowers b → too_high (monomial_times a b) ≡ None → (v : ℕ) → exponent a v + exponent b v ≤ 65535
product-none a b h i e v = omega (arith, too_high-none (monomial_times a b) e v, exponent-times a b v h i)

pub none-product : (a b : List (ℕ × ℕ)) → IsPowers a → IsPowers b → ((v : ℕ) → exponent a v + exponent b v ≤ 65535) → too_high (monomial_times a b) ≡ None
none-product a b h i f = none-too_high (monomial_times a b) (IsPowers-times a b h i) (λ v. omega (arith, f v, exponent-times a b v h i))
