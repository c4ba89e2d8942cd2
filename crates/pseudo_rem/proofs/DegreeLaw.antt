-- A reduction lowers the degree in its variable, and raises it in none that does not occur in p.
use Rattle.std.specs.Prelude.{◌≡◌, ◌≢◌, ◌<◌, ◌≤◌, ℕ, suc, ◌-◌, Bool, true, false, if◌then◌else◌, nat_lt, pos, List, [], ◌∷◌, refl}
use Rattle.std.proofs.lemmas.Bool.Decides.{nat_tests}
use Rattle.std.proofs.Common.{arith, sym, ◌∙◌, ap, subst}
use Rattle.std.specs.declared.option.Option.{Option}
use Rattle.std.specs.declared.option.Option.TheVariants.{None, Some}
use Rattle.monomial.specs.Monomials.{exponent, top, IsPowers}
use Rattle.monomial.proofs.Exponents.{IsBelow-more, exponent_above}
use Rattle.sparse_poly.specs.declared.Term.{Term}
use Rattle.sparse_poly.specs.Polynomials.{coefficient, products, negated, IsSum}
use Rattle.sparse_poly.specs.Contributions.{contributions, higher, IsPoly}
use Rattle.sparse_poly.specs.Reads.{degree_in, main_variable, leading_in}
use Rattle.pseudo_rem.specs.Steps.{cofactor, step_contributions, CanReduce, IsReduction}
use Rattle.pseudo_rem.specs.declared.steps.Reduction.{Reduction}
use Rattle.pseudo_rem.proofs.Degrees.{AllPowers, AllPowers-poly, degree_in-append, degree_in-negated, degree_in-products, stripped_below, coefficient_beyond, degree_in-below}
use Rattle.pseudo_rem.proofs.Cancelling.{times_power_powers, degree_in-times_other, coefficient_powers, coefficient_below, cancelled}

-- a variable above the main one, if there is one
abbrev pub IsAbove : Option ℕ → ℕ → Type 0
IsAbove None w = Unit {0}
IsAbove (Some v) w = v < w

above_both : (o r : Option ℕ) (w : ℕ) → IsAbove (higher o r) w → IsAbove o w × IsAbove r w
above_both None r w h = (tt, h)
above_both (Some v) None w h = (h, tt)
above_both (Some v) (Some u) w h = each (nat_lt v u) refl h
  where
    less : (v u : ℕ) → nat_lt v u ≡ true → v < u
    less v u e = grind (arith, nat_tests)

    no_less : (v u : ℕ) → nat_lt v u ≡ false → u ≤ v
    no_less v u e = grind (arith, nat_tests)

    each : (b : Bool) → nat_lt v u ≡ b → (if b then u else v) < w → (v < w) × (u < w)
    each true e l = let k = less v u e in (omega (arith, k, l), l)
    each false e l = let k = no_less v u e in (l, omega (arith, k, l))

above_top : (m : List (ℕ × ℕ)) (w : ℕ) → IsPowers m → IsAbove (top m) w → exponent m w ≡ 0
above_top [] w h a = refl
above_top (p ∷ ps) w h a = exponent_above w (p ∷ ps) w (a, IsBelow-more p.0 w ps (omega arith) h.1) (omega arith)

pub above_main : (p : List Term) (w : ℕ) → AllPowers p → IsAbove (main_variable p) w → degree_in w p ≡ 0
above_main [] w h a = refl
above_main (t ∷ ts) w h a =
    let both = above_both (top t.monomial) (main_variable ts) w a in
    let first = above_top t.monomial w h.0 both.0 in
    let rest = above_main ts w h.1 both.1 in
    omega (arith, first, rest)

pub no_degree : (p : List Term) (u w : ℕ) → IsPoly p → main_variable p ≡ Some u → u < w → degree_in w p ≡ 0
no_degree p u w h m l = above_main p w (AllPowers-poly p h) (subst (λ o. IsAbove o w) (sym m) l)

module _ (units : List (List Term)) (q p : List Term) (v : ℕ) (step : Reduction) (hq : IsPoly q) (hp : IsPoly p) (can : CanReduce q p v) (r : IsReduction units q p v step) where
  sums : IsSum r.is_step.combined (step_contributions v q p)
  sums m = r.is_step.result.sums m ∙ ap (λ x. coefficient (contributions x q step.a p) m) r.l_is ∙ ap (λ x. coefficient (contributions (leading_in v p) q x p) m) r.a_is

  below : (w n : ℕ) → 0 < n → ((m : List (ℕ × ℕ)) → n ≤ exponent m w → coefficient (step_contributions v q p) m ≡ pos 0) → degree_in w step.r < n
  below w n some h =
      let whole = r.is_step.result.poly in
      let rest = stripped_below w units r.is_step.combined step.m step.r whole r.is_step.stripped in
      let combined = degree_in-below w n r.is_step.combined whole.falling whole.apart some (λ m l. sums m ∙ h m l) in
      omega (arith, rest, combined)

  pub lower : degree_in v step.r < degree_in v q
  lower = below v (degree_in v q) (omega (arith, can.occurs, can.below)) (λ m l. cancelled v q p m (AllPowers-poly q hq) (AllPowers-poly p hp) can l)

  pub other : (w : ℕ) → degree_in w p ≡ 0 → degree_in w step.r ≤ degree_in w q
  other w z = let strictly = below w (suc (degree_in w q)) (omega arith) (λ m l. coefficient_beyond w (step_contributions v q p) m (omega (arith, bound, l))) in omega (arith, strictly)
    where
      apart : v ≢ w
      apart e = let zero : degree_in v p ≡ 0 = ap (λ x. degree_in x p) e ∙ z in absurd (omega (arith, zero, can.occurs))

      bound : degree_in w (step_contributions v q p) ≤ degree_in w q
      bound =
          let powers = AllPowers-poly q hq in
          let leading = coefficient_powers v (degree_in v q) q powers in
          let l = degree_in-products w (leading_in v p) q (coefficient_powers v (degree_in v p) p (AllPowers-poly p hp)) powers in
          let l_below = coefficient_below v (degree_in v p) w p apart in
          let a = degree_in-products w (cofactor v q p) p (times_power_powers v (degree_in v q - degree_in v p) (leading_in v q) leading) (AllPowers-poly p hp) in
          let a_same = degree_in-times_other v (degree_in v q - degree_in v p) w (leading_in v q) apart leading in
          let a_below = coefficient_below v (degree_in v q) w q apart in
          let both = degree_in-append w (products (leading_in v p) q) (negated (products (cofactor v q p) p)) in
          let sign = degree_in-negated w (products (cofactor v q p) p) in
          omega (arith, l, l_below, a, a_same, a_below, both, sign, z)

  pub greater : (u w : ℕ) → main_variable p ≡ Some u → u < w → degree_in w step.r ≤ degree_in w q
  greater u w m l = other w (no_degree p u w hp m l)
