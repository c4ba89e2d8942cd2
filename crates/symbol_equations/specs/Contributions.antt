-- The terms of products of symbols, as the code collects them.
use Rattle.std.specs.Prelude.{ℕ, ◌≤◌, Option, Some, None, ℤ, pos, List, [], ◌∷◌}
use Rattle.sparse_poly.specs.declared.Term.{Term}

-- the polynomial of a monomial, or 0
abbrev pub optional_terms : Option (List (ℕ × ℕ)) → List Term
optional_terms None = []
optional_terms (Some m) = record { monomial = m; coeff = pos 1 } ∷ []

-- the same monomials, each with the coefficient c
abbrev pub with_coeff : ℤ → List Term → List Term
with_coeff c [] = []
with_coeff c (t ∷ ts) = record { monomial = t.monomial; coeff = c } ∷ with_coeff c ts

-- no exponent is above n
abbrev pub IsLow : ℕ → List (ℕ × ℕ) → Type 0
IsLow n [] = Unit {0}
IsLow n (p ∷ ps) = (p.1 ≤ n) × IsLow n ps
