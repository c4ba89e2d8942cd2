-- Stripping a polynomial of units, and units.
use Rattle.std.specs.Prelude.{◌≡◌, ◌≢◌, ◌<◌, ℕ, pos, ◌⊎◌, List, [], ◌∷◌}
use Rattle.std.specs.List.{AllByRecursion, Contains}
use Rattle.field_laws.specs.Field.{Field}
use Rattle.monomial.specs.Monomials.{exponent}
use Rattle.sparse_poly.specs.declared.Term.{Term}
use Rattle.sparse_poly.specs.Polynomials.{eval, products, constant, variable, IsSum}
use Rattle.sparse_poly.specs.Contributions.{IsPoly}
use Rattle.sparse_poly.specs.Primitive.{IsPrimitive}

-- one term, whose variables are all members of the units
abbrev pub IsUnitTerm : List (List Term) → List Term → Type 0
IsUnitTerm units [] = ⊥
IsUnitTerm units (t ∷ []) = AllByRecursion (λ (q : ℕ × ℕ). Contains units (variable q.0)) t.monomial
IsUnitTerm units (t ∷ u ∷ us) = ⊥

-- p stripped under the units: p is factor times rest, the rest is primitive and divided by no variable that is a member of the units,
-- and the factor is what was divided out, 1 for zero
pub record IsStripped (units : List (List Term)) (p factor rest : List Term) : Type 0 where
  pub factor_poly : IsPoly factor
  pub rest_poly : IsPoly rest
  pub product : IsSum p (products factor rest)
  pub primitive : IsPrimitive rest
  pub divided : (v : ℕ) → Contains units (variable v) → AllByRecursion (λ (t : Term). 0 < exponent t.monomial v) rest → rest ≡ []
  pub out : IsUnitTerm units factor
  pub zero_factor : p ≡ [] → factor ≡ constant (pos 1)

-- the constant 1 or a member of the units
abbrev pub IsOneOrMember : List (List Term) → List Term → Type 0
IsOneOrMember units rest = (rest ≡ constant (pos 1)) ⊎ Contains units rest

-- no unit vanishes at s
abbrev pub AllNonzero : {E : Type 0} → Field E → List E → List (List Term) → Type 0
AllNonzero f s units = AllByRecursion (λ (u : List Term). eval f s u ≢ f.zero) units
