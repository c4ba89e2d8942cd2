-- What stands at the front of a text whose form and numbers are right.
use Rattle.std.specs.Prelude.{◌≡◌, ◌≢◌, ℕ, ◌-◌, ◌<◌, ◌≤◌, ◌⊎◌, Bool, true, false, ◌==◌, ◌||◌, if◌then◌else◌, Option, None, List, [], ◌∷◌, ◌++◌, length, drop, codes}
use Rattle.std.specs.List.{AllByRecursion}
use Rattle.sparse_poly.specs.Contributions.{max_coeff}
use Rattle.sparse_poly.specs.declared.Term.{Term}
use Rattle.poly_text.specs.Text.{factor_text, more_factors, body_text, term_text}
use Rattle.poly_text.specs.Form.{is_digit, run, ends, after_term}
use Rattle.poly_text.specs.Numbers.{number_from, after_digits, first_out, IsFactorInRange, IsTermInRange}
use Rattle.poly_text.specs.Scan.{scan, scan_end}
use Rattle.poly_text.specs.State.{State, Start, Signed, FactorEnd}

-- the text goes on from this state by the form, and its numbers are in range
pub record IsLive (unknowns : ℕ) (s : State) (text : List ℕ) : Type 0 where
  pub form : ends (run s text) ≡ true
  pub numbers : first_out unknowns s text ≡ None

-- the text begins with this byte
abbrev pub begins_with : List ℕ → ℕ → Bool
begins_with [] byte = false
begins_with (c ∷ cs) byte = c == byte

-- the text begins with a digit
abbrev pub begins_with_digit : List ℕ → Bool
begins_with_digit [] = false
begins_with_digit (c ∷ cs) = is_digit c

-- nothing, or a sign
abbrev pub ends_term : List ℕ → Bool
ends_term [] = true
ends_term (c ∷ cs) = (c == 43) || (c == 45)

-- the text without the sign at its front
abbrev pub after_sign : List ℕ → List ℕ
after_sign [] = []
after_sign (c ∷ cs) = if (c == 43) || (c == 45) then cs else c ∷ cs

-- nothing, or a sign and a further term
abbrev pub IsAfterTerm : ℕ → List ℕ → Type 0
IsAfterTerm unknowns [] = Unit {0}
IsAfterTerm unknowns (c ∷ cs) = (after_term c ≡ Signed) × IsLive unknowns Signed cs

-- what may stand behind some terms: at the start the first term, but not the text `0`, and else nothing or a further term
abbrev pub GoesOn : ℕ → List Term → List ℕ → Type 0
GoesOn u [] rest = IsLive u Start rest × (begins_with rest 48 ≡ false)
GoesOn u (t ∷ ts) rest = IsAfterTerm u rest

-- the text begins with a number without leading zeros, and n is it, or greater than any in range where that is out of range
pub record IsNumberFront (text : List ℕ) (n : ℕ) (rest : List ℕ) : Type 0 where
  pub digit : begins_with_digit text ≡ true
  pub whole : begins_with text 48 ≡ true → begins_with_digit (drop 1 text) ≡ false
  pub exact : n ≤ max_coeff → number_from 0 text ≡ n
  pub great : max_coeff < n → max_coeff < number_from 0 text
  pub behind : rest ≡ after_digits text

-- the text begins with no digit, or with a 0 and a further digit, at which it leaves the form
abbrev pub IsNoNumber : List ℕ → ℕ → Type 0
IsNoNumber text left = ((begins_with_digit text ≡ false) × (left ≡ length text)) ⊎ ((begins_with text 48 ≡ true) × (begins_with_digit (drop 1 text) ≡ true) × (left ≡ length text - 1))

-- behind state s a number is read, and behind it state z goes on; the value is that of the number where the text is right
pub record IsNumberRead (unknowns : ℕ) (s z : State) (old new : Option ℕ) (text : List ℕ) (n : ℕ) (rest : List ℕ) : Type 0 where
  pub same : scan unknowns old s text ≡ scan unknowns new z rest
  pub value : IsLive unknowns s text → n ≡ number_from 0 text
  pub behind : rest ≡ after_digits text

-- a coefficient is read, behind which there may be factors where it is not 1
pub record IsCoefficientRead (unknowns : ℕ) (old new : Option ℕ) (text : List ℕ) (n : ℕ) (rest : List ℕ) : Type 0 where
  pub one : n ≡ 1 → scan unknowns old Signed text ≡ scan_end unknowns new rest
  pub other : n ≢ 1 → scan unknowns old Signed text ≡ scan unknowns new FactorEnd rest
  pub small : n ≤ max_coeff
  pub value : IsLive unknowns Signed text → n ≡ number_from 0 text
  pub behind : rest ≡ after_digits text
  pub shorter : length rest < length text

-- behind an `x` the text is that of a factor and a rest
pub record IsFactorFront (unknowns : ℕ) (text : List ℕ) (p : ℕ × ℕ) (rest : List ℕ) : Type 0 where
  pub spelled : codes "x" ++ text ≡ factor_text p ++ rest
  pub in_range : IsFactorInRange unknowns p
  pub live : IsLive unknowns FactorEnd rest
  pub shorter : length rest ≤ length text

-- the text is that of the factors that are appended, each behind a `*`, and a rest
pub record IsFactorsFront (unknowns : ℕ) (text : List ℕ) (old new : List (ℕ × ℕ)) (rest : List ℕ) : Type 0 where
  pub spelled : more_factors old ++ text ≡ more_factors new ++ rest
  pub in_range : AllByRecursion (IsFactorInRange unknowns) new
  pub follows : IsAfterTerm unknowns rest
  pub shorter : length rest ≤ length text

-- behind a sign the text is that of a coefficient's absolute value, a monomial, and a rest
pub record IsBodyFront (unknowns : ℕ) (text : List ℕ) (n : ℕ) (ps : List (ℕ × ℕ)) (rest : List ℕ) : Type 0 where
  pub spelled : text ≡ body_text n ps ++ rest
  pub some : 0 < n
  pub small : n ≤ max_coeff
  pub in_range : AllByRecursion (IsFactorInRange unknowns) ps
  pub follows : IsAfterTerm unknowns rest
  pub shorter : length rest < length text

-- the term and a rest have the text, behind the sign
pub record IsTermFront (unknowns : ℕ) (negative : Bool) (text : List ℕ) (term : Term) (rest : List ℕ) : Type 0 where
  pub spelled : (plus : List ℕ) → (if negative then codes "-" else plus) ++ text ≡ term_text plus term ++ rest
  pub in_range : IsTermInRange unknowns term
  pub follows : IsAfterTerm unknowns rest
  pub shorter : length rest < length text
