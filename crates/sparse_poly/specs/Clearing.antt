-- Known conditions that are divided out of a polynomial, and units.
use Rattle.std.specs.Prelude.{◌≡◌, ◌≢◌, ◌<◌, ◌≤◌, ℕ, ◌+◌, ◌⊎◌, List, [], ◌∷◌}
use Rattle.std.specs.List.{AllByRecursion, Contains}
use Rattle.std.specs.declared.option.Option.TheVariants.{None}
use Rattle.monomial.specs.Monomials.{exponent}
use Rattle.sparse_poly.specs.declared.Term.{Term}
use Rattle.sparse_poly.specs.Polynomials.{weight, products}
use Rattle.sparse_poly.specs.Contributions.{max_coeff, degree_of, IsPoly, IsResult}
use Rattle.sparse_poly.specs.Primitive.{IsPrimitive}
use Rattle.sparse_poly.specs.Reads.{main_variable}
use Rattle.sparse_poly.specs.Units.{IsStripped, IsOneOrMember}

-- contributions are neither of too high degree nor heavy
pub record IsLight (cs : List Term) : Type 0 where
  pub degree : degree_of cs ≡ None
  pub light : (m : List (ℕ × ℕ)) → weight cs m ≤ max_coeff

-- n divides p openly with quotient g: p is the product of g and n, which is neither of too high degree nor heavy
pub record DividesOpenly (n p g : List Term) : Type 0 where
  pub poly : IsPoly g
  pub product : IsResult (products g n) p

-- a variable divides each term
abbrev pub IsDividedBy : ℕ → List Term → Type 0
IsDividedBy v p = AllByRecursion (λ (t : Term). 0 < exponent t.monomial v) p

pub record HasDivisor (p : List Term) : Type 0 where
  pub variable : ℕ
  pub divides : IsDividedBy variable p

-- a polynomial in form: primitive, not constant, and divided by no variable
pub record IsInForm (n : List Term) : Type 0 where
  pub poly : IsPoly n
  pub primitive : IsPrimitive n
  pub varied : main_variable n ≢ None
  pub whole : (v : ℕ) → IsDividedBy v n → ⊥

-- a member n of the units is divided out once: it is in form, the rest g is not zero and no member, n divides g openly with quotient h, e is
-- f times n, and neither that product nor the one of e and h is of too high degree or heavy
pub record IsDivision (units : List (List Term)) (n f g e h : List Term) : Type 0 where
  pub in_form : IsInForm n
  pub nonzero : g ≢ []
  pub apart : Contains units g → ⊥
  pub quotient : DividesOpenly n g h
  pub factor : IsResult (products f n) e
  pub whole : IsLight (products e h)

-- members are divided out in their order, each as often as it goes, from a factor f and a rest g to a factor e and a rest h
pub data IsDividedOut (units : List (List Term)) : List (List Term) → List Term → List Term → List Term → List Term → Type 0 where
  finished : {f g : List Term} → IsDividedOut units [] f g f g
  passed : {n : List Term} {ns : List (List Term)} {f g e h : List Term} → ((d k : List Term) → IsDivision units n f g d k → ⊥) → IsDividedOut units ns f g e h → IsDividedOut units (n ∷ ns) f g e h
  divided : {n : List Term} {ns : List (List Term)} {f g d k e h : List Term} → IsDivision units n f g d k → IsDividedOut units (n ∷ ns) d k e h → IsDividedOut units (n ∷ ns) f g e h

-- one of these divisions is by n
pub data IsDividedOutBy (units : List (List Term)) (n : List Term) : List (List Term) → List Term → List Term → Type 0 where
  by_first : {ns : List (List Term)} {f g e h : List Term} → IsDivision units n f g e h → IsDividedOutBy units n (n ∷ ns) f g
  by_later : {m : List Term} {ns : List (List Term)} {f g : List Term} → ((e h : List Term) → IsDivision units m f g e h → ⊥) → IsDividedOutBy units n ns f g → IsDividedOutBy units n (m ∷ ns) f g
  after : {m : List Term} {ns : List (List Term)} {f g e h : List Term} → IsDivision units m f g e h → IsDividedOutBy units n (m ∷ ns) e h → IsDividedOutBy units n (m ∷ ns) f g

-- p cleared of the units: it is stripped, and then the units in form are divided out
pub record IsCleared (units : List (List Term)) (p factor rest : List Term) : Type 0 where
  pub strip_factor : List Term
  pub strip_rest : List Term
  pub stripped : IsStripped units p strip_factor strip_rest
  pub divided_out : IsDividedOut units units strip_factor strip_rest factor rest

-- the rest of p, once it is cleared of the units, is the constant 1 or a member of the units
pub record IsClearUnit (units : List (List Term)) (p : List Term) : Type 0 where
  pub factor : List Term
  pub rest : List Term
  pub cleared : IsCleared units p factor rest
  pub member : IsOneOrMember units rest

-- the rest of p, once it is stripped of the units, is the constant 1 or a member of the units
pub record IsStripUnit (units : List (List Term)) (p : List Term) : Type 0 where
  pub factor : List Term
  pub rest : List Term
  pub stripped : IsStripped units p factor rest
  pub member : IsOneOrMember units rest

-- a unit: the rest of its strip or of its clearing is the constant 1 or a member of the units
abbrev pub IsUnit : List (List Term) → List Term → Type 0
IsUnit units p = IsStripUnit units p ⊎ IsClearUnit units p

-- the sum of the exponents of the leading monomial
abbrev pub total_degree : List (ℕ × ℕ) → ℕ
total_degree [] = 0
total_degree (p ∷ ps) = p.1 + total_degree ps

abbrev pub leading_degree : List Term → ℕ
leading_degree [] = 0
leading_degree (t ∷ ts) = total_degree t.monomial
