-- The parts of a polynomial that are divided out: its content with the leading sign, and the monomial of units that divides all terms.
use Rattle.std.specs.Prelude.{◌≡◌, ◌≢◌, ◌<◌, ◌≤◌, ℕ, ◌⊎◌, Bool, false, ◌||◌, if◌then◌else◌, nat_lt, min, ℤ, pos, neg_ℤ, ◌<ℤ◌, unsigned_abs, List, [], ◌∷◌}
use Prim.Native.Nat.{◌∣◌}
use Rattle.std.specs.List.{AllByRecursion, Contains}
use Rattle.std.specs.Ordering.{is_eq}
use Rattle.monomial.specs.Monomials.{exponent, Divides, IsMonomial}
use Rattle.sparse_poly.specs.declared.Term.{Term}
use Rattle.sparse_poly.specs.Polynomials.{row, variable}
use Rattle.sparse_poly.specs.Contributions.{max_coeff}
use Rattle.sparse_poly.specs.Order.{poly_cmp}
use Rattle.sparse_poly.specs.Primitive.{DividesAll}
use Rattle.sparse_poly.specs.Standing.{AllMonomials}

-- g is the greatest common divisor of the coefficients
pub record IsCommonDivisor (ts : List Term) (g : ℕ) : Type 0 where
  pub divides : DividesAll g ts
  pub greatest : (d : ℕ) → DividesAll d ts → d ∣ g

-- c has the sign of the leading coefficient, and is 1 where there is none
abbrev pub HasLeadingSign : ℤ → List Term → Type 0
HasLeadingSign c [] = c ≡ pos 1
HasLeadingSign c (t ∷ ts) = ((pos 0 <ℤ c) × (pos 0 <ℤ t.coeff)) ⊎ ((c <ℤ pos 0) × (t.coeff <ℤ pos 0))

-- c is the content with the leading sign
pub record IsContent (ts : List Term) (c : ℤ) : Type 0 where
  pub small : unsigned_abs c ≤ max_coeff
  pub divides : DividesAll (unsigned_abs c) ts
  pub greatest : (d : ℕ) → ts ≢ [] → DividesAll d ts → d ∣ unsigned_abs c
  pub sign : HasLeadingSign c ts

-- c is a number of this size with the sign of a coefficient
abbrev pub IsSignedSize : ℤ → ℕ → ℤ → Type 0
IsSignedSize z n c = ((c ≡ pos n) × (pos 0 <ℤ z)) ⊎ ((c ≡ neg_ℤ (pos n)) × (z <ℤ pos 0))

-- a monomial divides that of each term
abbrev pub AllDivided : List (ℕ × ℕ) → List Term → Type 0
AllDivided g ts = AllByRecursion (λ (t : Term). Divides g t.monomial) ts

-- a polynomial is a member of a list
abbrev pub is_member : List (List Term) → List Term → Bool
is_member [] p = false
is_member (u ∷ us) p = is_eq (poly_cmp u p) || is_member us p

-- the least of a number and the exponents of a variable
abbrev pub least_exponent : ℕ → ℕ → List Term → ℕ
least_exponent v n [] = n
least_exponent v n (t ∷ ts) = least_exponent v (min n (exponent t.monomial v)) ts

-- how often a power's variable divides all terms, if it is a member of the units
abbrev pub unit_exponent : List (List Term) → List Term → ℕ × ℕ → ℕ
unit_exponent units ts p = if is_member units (variable p.0) then least_exponent p.0 p.1 ts else 0

-- the powers of units that divide all terms, of those in a list of powers
abbrev pub unit_powers : List (List Term) → List Term → List (ℕ × ℕ) → List (ℕ × ℕ)
unit_powers units ts [] = []
unit_powers units ts (p ∷ ps) = if nat_lt 0 (unit_exponent units ts p) then (p.0, unit_exponent units ts p) ∷ unit_powers units ts ps else unit_powers units ts ps

-- g is the greatest monomial in variables that are units which divides all terms
pub record IsUnitMonomial (units : List (List Term)) (ts : List Term) (g : List (ℕ × ℕ)) : Type 0 where
  pub monomial : IsMonomial g
  pub members : AllByRecursion (λ (q : ℕ × ℕ). Contains units (variable q.0)) g
  pub divides : AllDivided g ts
  pub greatest : (v : ℕ) → Contains units (variable v) → AllByRecursion (λ (t : Term). exponent g v < exponent t.monomial v) ts → ts ≡ []
  pub none : ts ≡ [] → g ≡ []

-- qs is what is left of the terms over a term
pub record IsQuotient (ts : List Term) (t : Term) (qs : List Term) : Type 0 where
  pub product : row t qs ≡ ts
  pub monomials : AllMonomials qs
