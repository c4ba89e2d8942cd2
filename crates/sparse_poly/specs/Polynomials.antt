-- A polynomial as a finite map from monomials to whole numbers, its value in a field, and the contributions to a sum and a product.
use Rattle.std.specs.Prelude.{◌≡◌, ℕ, zero, suc, ◌+◌, Bool, if◌then◌else◌, ℤ, pos, negsuc, neg_ℤ, unsigned_abs, ◌+ℤ◌, ◌*ℤ◌, List, [], ◌∷◌, ◌++◌, slice_index_or}
use Rattle.std.specs.Ordering.{is_eq}
use Rattle.field_laws.specs.Field.{Field, whole, power}
use Rattle.monomial.specs.Monomials.{monomial_cmp, monomial_times}
use Rattle.sparse_poly.specs.declared.Term.{Term}

-- a term is one of this monomial
abbrev pub is_of : List (ℕ × ℕ) → Term → Bool
is_of m t = is_eq (monomial_cmp m t.monomial)

-- the sum of the coefficients of a monomial, and of their absolute values
abbrev pub coefficient : List Term → List (ℕ × ℕ) → ℤ
coefficient [] m = pos 0
coefficient (t ∷ ts) m = (if is_of m t then t.coeff else pos 0) +ℤ coefficient ts m

abbrev pub weight : List Term → List (ℕ × ℕ) → ℕ
weight [] m = 0
weight (t ∷ ts) m = (if is_of m t then unsigned_abs t.coeff else 0) + weight ts m

-- the contributions to a product and a difference: the product of one term of each factor, with its sign
abbrev pub term_times : Term → Term → Term
term_times t u = record { monomial = monomial_times t.monomial u.monomial; coeff = t.coeff *ℤ u.coeff }

abbrev pub row : Term → List Term → List Term
row t [] = []
row t (u ∷ us) = term_times t u ∷ row t us

abbrev pub products : List Term → List Term → List Term
products [] us = []
products (t ∷ ts) us = row t us ++ products ts us

abbrev pub negated : List Term → List Term
negated [] = []
negated (t ∷ ts) = record { monomial = t.monomial; coeff = neg_ℤ t.coeff } ∷ negated ts

-- the value of a monomial, where the variables have the values s, and those past its end the value zero
abbrev pub monomial_value : {E : Type 0} → Field E → List E → List (ℕ × ℕ) → E
monomial_value f s [] = f.one
monomial_value f s (p ∷ ps) = f.times (power f (slice_index_or s p.0 f.zero) p.1) (monomial_value f s ps)

abbrev pub term_value : {E : Type 0} → Field E → List E → List (ℕ × ℕ) → ℤ → E
term_value f s m c = f.times (whole f c) (monomial_value f s m)

-- the value of a polynomial
abbrev pub eval : {E : Type 0} → Field E → List E → List Term → E
eval f s [] = f.zero
eval f s (t ∷ ts) = f.plus (term_value f s t.monomial t.coeff) (eval f s ts)

-- a polynomial times a whole number
abbrev pub scaled : ℤ → List Term → List Term
scaled k [] = []
scaled k (t ∷ ts) = record { monomial = t.monomial; coeff = k *ℤ t.coeff } ∷ scaled k ts

-- the constant polynomial of a whole number
abbrev pub constant : ℤ → List Term
constant (pos zero) = []
constant (pos (suc n)) = record { monomial = []; coeff = pos (suc n) } ∷ []
constant (negsuc n) = record { monomial = []; coeff = negsuc n } ∷ []

-- the polynomial of a variable
abbrev pub variable : ℕ → List Term
variable v = record { monomial = (v, 1) ∷ []; coeff = pos 1 } ∷ []

-- p is the polynomial that these contributions add up to
abbrev pub IsSum : List Term → List Term → Type 0
IsSum p cs = (m : List (ℕ × ℕ)) → coefficient p m ≡ coefficient cs m
