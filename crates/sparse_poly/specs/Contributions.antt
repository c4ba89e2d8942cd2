-- The contributions to a combination, their weight and their degree, and what a combination answers.
use Rattle.std.specs.Prelude.{◌≡◌, ◌≢◌, ◌<◌, ◌≤◌, ℕ, Bool, true, false, if◌then◌else◌, nat_le, nat_lt, ℤ, pos, negsuc, neg_ℤ, unsigned_abs, List, [], ◌∷◌, ◌++◌}
use Rattle.std.specs.List.{AllByRecursion}
use Rattle.std.specs.declared.option.Option.{Option}
use Rattle.std.specs.declared.option.Option.TheVariants.{None, Some}
use Rattle.std.specs.declared.cmp.Ordering.TheVariants.{Less}
use Rattle.monomial.specs.Monomials.{monomial_cmp, too_high, IsMonomial}
use Rattle.sparse_poly.specs.declared.Term.{Term}
use Rattle.sparse_poly.specs.declared.PolyFault.{PolyFault}
use Rattle.sparse_poly.specs.declared.PolyFault.TheVariants.{Degree, Heavy, OutOfMemory}
use Rattle.sparse_poly.specs.Polynomials.{weight, row, products, negated, IsSum}

-- the greatest absolute value of a coefficient, 2^127 - 1
abbrev pub max_coeff : ℕ
max_coeff = 170141183460469231731687303715884105727

-- a number, with its sign turned where that is asked
abbrev pub signed : Bool → ℤ → ℤ
signed false z = z
signed true z = neg_ℤ z

abbrev pub signed_row : Bool → Term → List Term → List Term
signed_row false t us = row t us
signed_row true t us = negated (row t us)

abbrev pub signed_products : Bool → List Term → List Term → List Term
signed_products false ts us = products ts us
signed_products true ts us = negated (products ts us)

-- the contributions to l*q - a*p
abbrev pub contributions : List Term → List Term → List Term → List Term → List Term
contributions l q a p = products l q ++ negated (products a p)

-- a number as the code keeps it: the least one stands for all that are out of range
abbrev pub kept : ℤ → ℤ
kept z = if nat_le (unsigned_abs z) max_coeff then z else negsuc max_coeff

-- the greatest variable whose exponent is above 65,535 in a contribution
abbrev pub higher : Option ℕ → Option ℕ → Option ℕ
higher None o = o
higher (Some v) None = Some v
higher (Some v) (Some w) = Some (if nat_lt v w then w else v)

abbrev pub degree_of : List Term → Option ℕ
degree_of [] = None
degree_of (t ∷ ts) = higher (too_high t.monomial) (degree_of ts)

-- m is the greatest monomial to which the absolute values of the contributions add up to more than the limit
pub record IsHeaviest (cs : List Term) (m : List (ℕ × ℕ)) : Type 0 where
  pub heavy : max_coeff < weight cs m
  pub greatest : (k : List (ℕ × ℕ)) → monomial_cmp m k ≡ Less → weight cs k ≤ max_coeff

-- the monomials fall strictly
abbrev pub IsFalling : List Term → Type 0
IsFalling [] = Unit {0}
IsFalling (t ∷ ts) = AllByRecursion (λ u. monomial_cmp u.monomial t.monomial ≡ Less) ts × IsFalling ts

-- a polynomial: its monomials fall strictly, and no coefficient is 0 or out of range
pub record IsPoly (p : List Term) : Type 0 where
  pub falling : IsFalling p
  pub monomials : AllByRecursion (λ t. IsMonomial t.monomial) p
  pub apart : AllByRecursion (λ t. t.coeff ≢ pos 0) p
  pub in_range : AllByRecursion (λ t. unsigned_abs t.coeff ≤ max_coeff) p

-- p is what the contributions add up to, and they are of no too high degree and not heavy
pub record IsResult (cs p : List Term) : Type 0 where
  pub degree : degree_of cs ≡ None
  pub light : (m : List (ℕ × ℕ)) → weight cs m ≤ max_coeff
  pub sums : IsSum p cs
  pub poly : IsPoly p

-- why contributions are not added up: the greatest variable of too high degree, or else the greatest heavy monomial
abbrev pub IsFault : List Term → PolyFault → Type 0
IsFault cs (Degree v) = degree_of cs ≡ Some v
IsFault cs (Heavy m) = (degree_of cs ≡ None) × IsHeaviest cs m
IsFault cs OutOfMemory = Unit {0}

-- a fault that is not one of degree
abbrev pub IsNoDegree : PolyFault → Type 0
IsNoDegree (Degree v) = ⊥
IsNoDegree (Heavy m) = Unit {0}
IsNoDegree OutOfMemory = Unit {0}
