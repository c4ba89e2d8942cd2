-- What the division of polynomials is made of: a term over a term, a row of products, and what shows early that nothing divides.
use Rattle.std.specs.Prelude.{◌≡◌, ◌<◌, ◌≤◌, ℕ, ◌*ℤ◌, unsigned_abs, List}
use Rattle.std.specs.List.{AllByRecursion}
use Rattle.std.specs.declared.option.Option.TheVariants.{None}
use Rattle.monomial.specs.Monomials.{exponent, monomial_times, too_high, IsMonomial}
use Rattle.sparse_poly.specs.declared.Term.{Term}
use Rattle.sparse_poly.specs.Polynomials.{row}
use Rattle.sparse_poly.specs.Contributions.{max_coeff}
use Rattle.sparse_poly.specs.Reads.{degree_in}

-- t times d is r
pub record IsTermOver (d r t : Term) : Type 0 where
  pub own : IsMonomial t.monomial
  pub monomial : monomial_times t.monomial d.monomial ≡ r.monomial
  pub coeff : t.coeff *ℤ d.coeff ≡ r.coeff

-- the product of two terms has no exponent above 65,535 and no coefficient out of range
abbrev pub Fits : Term → Term → Type 0
Fits t u = (too_high (monomial_times t.monomial u.monomial) ≡ None) × (unsigned_abs (t.coeff *ℤ u.coeff) ≤ max_coeff)

-- the products of a term and others, each of which fits
pub record IsRow (t : Term) (us vs : List Term) : Type 0 where
  pub row : vs ≡ row t us
  pub fits : AllByRecursion (Fits t) us

-- an exponent of a monomial is above the degree of a polynomial in its variable
pub record IsAboveDegree (m : List (ℕ × ℕ)) (p : List Term) : Type 0 where
  pub variable : ℕ
  pub above : degree_in variable p < exponent m variable
