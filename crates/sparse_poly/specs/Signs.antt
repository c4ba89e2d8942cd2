-- The values of polynomials at points where each variable is 1 or -1, so that they are whole numbers and small.
use Rattle.std.specs.Prelude.{ℕ, ◌-◌, ◌*◌, ◌%◌, Bool, false, not, ◌&&◌, nat_eq, nat_lt, if◌then◌else◌, ℤ, pos, negsuc, ◌+ℤ◌, ◌*ℤ◌, List, [], ◌∷◌}
use Rattle.sparse_poly.specs.declared.Term.{Term}

-- the sum of the coefficients, each times what f says of its monomial
abbrev pub sum_with : (List (ℕ × ℕ) → ℤ) → List Term → ℤ
sum_with f [] = pos 0
sum_with f (t ∷ ts) = (t.coeff *ℤ f t.monomial) +ℤ sum_with f ts

-- variable v is -1 at point k, and else 1: by its square modulo k, which follows no pattern of the numbers of variables
abbrev pub is_minus : ℕ → ℕ → Bool
is_minus k v = nat_lt (v * v % k) (k - v * v % k)

-- a power is -1: an odd power of such a variable
abbrev pub is_minus_power : ℕ → ℕ × ℕ → Bool
is_minus_power k p = is_minus k p.0 && nat_eq (p.1 % 2) 1

-- the sign of a product of two factors, of which these are -1
abbrev pub both_minus : Bool → Bool → Bool
both_minus a b = if a then not b else b

-- a monomial is -1
abbrev pub is_minus_monomial : ℕ → List (ℕ × ℕ) → Bool
is_minus_monomial k [] = false
is_minus_monomial k (p ∷ ps) = both_minus (is_minus_power k p) (is_minus_monomial k ps)

abbrev pub sign : ℕ → List (ℕ × ℕ) → ℤ
sign k m = if is_minus_monomial k m then negsuc 0 else pos 1

-- the value of a polynomial at point k
abbrev pub value_at : ℕ → List Term → ℤ
value_at k ts = sum_with (sign k) ts
