-- The place of the first term or factor out of order, as reading finds it. It is told by the number of bytes that are left there.
use Rattle.std.specs.Prelude.{◌≡◌, ℕ, suc, ◌+◌, ◌<◌, Bool, true, false, nat_lt, if◌then◌else◌, Option, None, Some, List, [], ◌∷◌, ◌++◌, length}
use Rattle.sparse_poly.specs.declared.Term.{Term}
use Rattle.poly_text.specs.Text.{more_factors, poly_text}
use Rattle.poly_text.specs.Numbers.{AreInRange}
use Rattle.poly_text.specs.Order.{product, is_below, first_factor, first_disorder, front, place}
use Rattle.poly_text.specs.Fronts.{begins_with, ends_term, GoesOn}
use Rattle.poly_text.specs.Disorder.{Disorder}

-- the variable is below that of the last factor, where there is one
abbrev pub is_falling : List (ℕ × ℕ) → ℕ → Bool
is_falling [] v = true
is_falling (p ∷ []) v = nat_lt v p.0
is_falling (p ∷ q ∷ ps) v = is_falling (q ∷ ps) v

-- the monomial of the last term, or else the one before
abbrev pub last_monomial : Option (List (ℕ × ℕ)) → List Term → Option (List (ℕ × ℕ))
last_monomial before [] = before
last_monomial before (t ∷ ts) = last_monomial (Some t.monomial) ts

-- the first factor out of order, of some that a rest follows, stands at this place
pub record IsFactorAt (ps : List (ℕ × ℕ)) (rest : List ℕ) (left : ℕ) : Type 0 where
  pub before : List (ℕ × ℕ)
  pub after : List (ℕ × ℕ)
  pub split : ps ≡ before ++ after
  pub first : first_factor 0 ps ≡ Some (length before)
  pub at_place : suc left ≡ length (more_factors after ++ rest)

abbrev pub IsFactorPlace : List (ℕ × ℕ) → List ℕ → Option ℕ → Type 0
IsFactorPlace ps rest None = first_factor 0 ps ≡ None
IsFactorPlace ps rest (Some left) = IsFactorAt ps rest left

-- what breaks the order first stands at this place
pub record IsDisorderAt (text : List ℕ) (ts : List Term) (left : ℕ) : Type 0 where
  pub first : Disorder
  pub is_first : first_disorder 0 None ts ≡ Some first
  pub at_place : left + place ts first ≡ length text

abbrev pub IsDisorderPlace : List ℕ → List Term → Option ℕ → Type 0
IsDisorderPlace text ts None = first_disorder 0 None ts ≡ None
IsDisorderPlace text ts (Some left) = IsDisorderAt text ts left

-- the place of what breaks the order first, with one term more, which starts at `left` and whose first factor out of order is at `factor`
abbrev pub next_place : Option ℕ → Option (List (ℕ × ℕ)) → List (ℕ × ℕ) → ℕ → Option ℕ → Option ℕ
next_place None before ps left factor = if is_below before (product ps) then factor else Some left
next_place (Some n) before ps left factor = Some n

-- the text goes on behind these terms, and at its start it is not empty and begins with no `+` and no `0`
abbrev pub IsAtSign : List Term → List ℕ → Type 0
IsAtSign [] rest = (0 < length rest) × (begins_with rest 43 ≡ false) × (begins_with rest 48 ≡ false)
IsAtSign (t ∷ ts) rest = ends_term rest ≡ true

-- the text is that of these terms and a rest
pub record IsReadTo (unknowns : ℕ) (text : List ℕ) (ts : List Term) (disorder : Option ℕ) (rest : List ℕ) : Type 0 where
  pub spelled : front ts ++ rest ≡ text
  pub in_range : AreInRange unknowns ts
  pub goes_on : GoesOn unknowns ts rest
  pub order : IsDisorderPlace text ts disorder

-- the text is that of these terms
pub record IsReading (unknowns : ℕ) (text : List ℕ) (ts : List Term) (disorder : Option ℕ) : Type 0 where
  pub spelled : text ≡ poly_text ts
  pub in_range : AreInRange unknowns ts
  pub order : IsDisorderPlace text ts disorder
