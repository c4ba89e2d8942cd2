-- The numbers of a text, and the first that is out of range.
use Rattle.std.specs.Prelude.{◌≢◌, ◌<◌, ◌≤◌, ℕ, ◌+◌, ◌-◌, ◌*◌, Bool, true, false, ◌&&◌, not, nat_lt, nat_le, if◌then◌else◌, pos, unsigned_abs, Option, None, Some, option_map, List, [], ◌∷◌}
use Rattle.std.specs.List.{AllByRecursion}
use Rattle.sparse_poly.specs.declared.Term.{Term}
use Rattle.sparse_poly.specs.Contributions.{max_coeff}
use Rattle.poly_text.specs.Form.{is_digit, next}
use Rattle.poly_text.specs.State.{State, Start, Signed, Zero, One, Coefficient, Times, Letter, VariableZero, Variable, Caret, FactorEnd, Exponent, Wrong}

-- n followed by the digits at the front of a text
abbrev pub number_from : ℕ → List ℕ → ℕ
number_from n [] = n
number_from n (c ∷ cs) = if is_digit c then number_from (10 * n + (c - 48)) cs else n

-- what follows the digits at the front of a text
abbrev pub after_digits : List ℕ → List ℕ
after_digits [] = []
after_digits (c ∷ cs) = if is_digit c then after_digits cs else c ∷ cs

-- a digit here is the first of a number
abbrev pub starts_number : State → Bool
starts_number Start = true
starts_number Signed = true
starts_number Zero = false
starts_number One = false
starts_number Coefficient = false
starts_number Times = false
starts_number Letter = true
starts_number VariableZero = false
starts_number Variable = false
starts_number Caret = true
starts_number FactorEnd = false
starts_number Exponent = false
starts_number Wrong = false

-- a variable is below the number of unknowns, an exponent that is written is 2 to 65,535, and a coefficient at most 2^127 - 1
abbrev pub in_range : ℕ → State → ℕ → Bool
in_range unknowns Letter n = nat_lt n unknowns
in_range unknowns Caret n = nat_le 2 n && nat_le n 65535
in_range unknowns s n = nat_le n max_coeff

-- a number that is out of range starts here
abbrev pub is_out : ℕ → State → List ℕ → Bool
is_out unknowns s [] = false
is_out unknowns s (c ∷ cs) = starts_number s && is_digit c && not (in_range unknowns s (number_from 0 (c ∷ cs)))

-- the start of the first number that is out of range
abbrev pub first_out : ℕ → State → List ℕ → Option ℕ
first_out unknowns s [] = None
first_out unknowns s (c ∷ cs) = if is_out unknowns s (c ∷ cs) then Some 0 else option_map (λ k. k + 1) (first_out unknowns (next s c) cs)

-- a factor whose variable and exponent are in range
abbrev pub IsFactorInRange : ℕ → ℕ × ℕ → Type 0
IsFactorInRange unknowns p = (p.0 < unknowns) × (0 < p.1) × (p.1 ≤ 65535)

-- the coefficient is not 0 and in range, and so are the factors
pub record IsTermInRange (unknowns : ℕ) (t : Term) : Type 0 where
  pub apart : t.coeff ≢ pos 0
  pub in_range : unsigned_abs t.coeff ≤ max_coeff
  pub factors : AllByRecursion (IsFactorInRange unknowns) t.monomial

abbrev pub AreInRange : ℕ → List Term → Type 0
AreInRange unknowns ts = AllByRecursion (IsTermInRange unknowns) ts
