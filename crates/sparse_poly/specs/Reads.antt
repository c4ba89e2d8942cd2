-- What is read from a polynomial: its degree in a variable, its greatest variable, and its coefficient of a power of a variable.
use Rattle.std.specs.Prelude.{◌≢◌, ◌<◌, ℕ, max, if◌then◌else◌, ◌==◌, List, [], ◌∷◌, All, AllPairs}
use Rattle.std.specs.List.{AllByRecursion}
use Rattle.std.specs.declared.option.Option.{Option}
use Rattle.std.specs.declared.option.Option.TheVariants.{None}
use Rattle.monomial.specs.Monomials.{exponent, top, without}
use Rattle.sparse_poly.specs.declared.Term.{Term}
use Rattle.sparse_poly.specs.Contributions.{higher}

-- the greatest exponent of a variable
abbrev pub degree_in : ℕ → List Term → ℕ
degree_in v [] = 0
degree_in v (t ∷ ts) = max (exponent t.monomial v) (degree_in v ts)

-- the greatest variable that occurs
abbrev pub main_variable : List Term → Option ℕ
main_variable [] = None
main_variable (t ∷ ts) = higher (top t.monomial) (main_variable ts)

-- all variables of a polynomial are below n
abbrev pub HasVariablesBelow : ℕ → List Term → Type 0
HasVariablesBelow n p = AllByRecursion (λ (t : Term). AllByRecursion (λ (q : ℕ × ℕ). q.0 < n) t.monomial) p

-- the coefficient of v^k: the terms in which v has the exponent k, without v
abbrev pub coefficient_of_power : ℕ → ℕ → List Term → List Term
coefficient_of_power v k [] = []
coefficient_of_power v k (t ∷ ts) = if exponent t.monomial v == k then record { monomial = without v t.monomial; coeff = t.coeff } ∷ coefficient_of_power v k ts else coefficient_of_power v k ts

-- the coefficient of the highest power of a variable
abbrev pub leading_in : ℕ → List Term → List Term
leading_in v p = coefficient_of_power v (degree_in v p) p

-- no member is constant, and main variables differ
pub record HaveMainVariables (list : List (List Term)) : Type 0 where
  pub varied : All (λ (p : List Term). main_variable p ≢ None) list
  pub apart : AllPairs (λ (p q : List Term). main_variable p ≢ main_variable q) list
