-- Which exponents the terms of a list have.
use Rattle.std.specs.Prelude.{◌≡◌, ◌<◌, ◌≤◌, ℕ, zero, suc, List, [], ◌∷◌}
use Rattle.std.specs.List.{AllByRecursion, Contains}
use Rattle.monomial.specs.Monomials.{exponent, IsPowers}
use Rattle.sparse_poly.specs.declared.Term.{Term}

-- in each monomial the variables fall strictly, and each exponent is at least 1
abbrev pub HavePowers : List Term → Type 0
HavePowers ts = AllByRecursion (λ (t : Term). IsPowers t.monomial) ts

-- no term has an exponent above n
abbrev pub HaveNoneAbove : ℕ → List Term → Type 0
HaveNoneAbove n ts = (t : Term) (v : ℕ) → Contains ts t → exponent t.monomial v ≤ n

-- v is the greatest variable of which a term has an exponent above n
pub record IsGreatestOf (n : ℕ) (ts : List Term) (v : ℕ) : Type 0 where
  pub term : Term
  pub member : Contains ts term
  pub above : n < exponent term.monomial v
  pub greatest : (t : Term) (w : ℕ) → Contains ts t → v < w → exponent t.monomial w ≤ n

-- a term has this exponent of v
pub record HasExponent (v : ℕ) (ts : List Term) (d : ℕ) : Type 0 where
  pub term : Term
  pub member : Contains ts term
  pub same : exponent term.monomial v ≡ d

-- d is the greatest exponent of v, and 0 where v does not occur
pub record IsGreatestExponent (v : ℕ) (ts : List Term) (d : ℕ) : Type 0 where
  pub within : (t : Term) → Contains ts t → exponent t.monomial v ≤ d
  pub met : 0 < d → HasExponent v ts d

-- the monomial v^k
abbrev pub variable_power : ℕ → ℕ → List (ℕ × ℕ)
variable_power v zero = []
variable_power v (suc k) = (v, suc k) ∷ []
