-- The form of a polynomial's text, as a grammar that goes byte by byte: numbers of any size, terms and factors in any order.
use Rattle.std.specs.Prelude.{◌≡◌, ◌≢◌, ℕ, ◌+◌, ◌≤◌, Bool, true, false, ◌&&◌, ◌==◌, nat_le, ◌⊎◌, if◌then◌else◌, List, [], ◌∷◌, ◌++◌, length, take}
use Rattle.poly_text.specs.State.{State, Start, Signed, Zero, One, Coefficient, Times, Letter, VariableZero, Variable, Caret, FactorEnd, Exponent, Wrong}

abbrev pub is_digit : ℕ → Bool
is_digit c = nat_le 48 c && nat_le c 57

-- a coefficient, without leading zeros, or the `x` of a factor
abbrev pub begin_term : ℕ → State
begin_term c = if c == 49 then One else (if nat_le 50 c && nat_le c 57 then Coefficient else (if c == 120 then Letter else Wrong))

-- the sign of a further term
abbrev pub after_term : ℕ → State
after_term c = if c == 43 then Signed else (if c == 45 then Signed else Wrong)

-- a `*` and a factor, or a further term
abbrev pub after_factor : ℕ → State
after_factor c = if c == 42 then Times else after_term c

-- a `^` and an exponent, or what may follow a factor
abbrev pub after_variable : ℕ → State
after_variable c = if c == 94 then Caret else after_factor c

-- what stands before the next byte, or `Wrong` where no text of the form goes on with this byte
abbrev pub next : State → ℕ → State
next Start c = if c == 45 then Signed else (if c == 48 then Zero else begin_term c)
next Signed c = begin_term c
next Zero c = Wrong
next One c = if is_digit c then Coefficient else after_term c
next Coefficient c = if is_digit c then Coefficient else after_factor c
next Times c = if c == 120 then Letter else Wrong
next Letter c = if c == 48 then VariableZero else (if is_digit c then Variable else Wrong)
next VariableZero c = after_variable c
next Variable c = if is_digit c then Variable else after_variable c
next Caret c = if c == 48 then FactorEnd else (if is_digit c then Exponent else Wrong)
next FactorEnd c = after_factor c
next Exponent c = if is_digit c then Exponent else after_factor c
next Wrong c = Wrong

-- the text may end here
abbrev pub ends : State → Bool
ends Start = false
ends Signed = false
ends Zero = true
ends One = true
ends Coefficient = true
ends Times = false
ends Letter = false
ends VariableZero = true
ends Variable = true
ends Caret = false
ends FactorEnd = true
ends Exponent = true
ends Wrong = false

abbrev pub run : State → List ℕ → State
run s [] = s
run s (c ∷ cs) = run (next s c) cs

-- the text has the form
abbrev pub IsForm : List ℕ → Type 0
IsForm text = ends (run Start text) ≡ true

-- the byte is no line feed and no space
abbrev pub IsPlainByte : ℕ → Type 0
IsPlainByte c = (c ≢ 10) × (c ≢ 32)

-- the text has not the form, and `at` is the least place such that no text of the form begins with its first at + 1 bytes, or the length where the text only ended early
pub record IsSyntaxFault (text : List ℕ) (at : ℕ) : Type 0 where
  pub not_form : ¬ IsForm text
  pub within : at ≤ length text
  pub begins : (rest : List ℕ) × IsForm (take at text ++ rest)
  pub stops : (at ≡ length text) ⊎ ((rest : List ℕ) → ¬ IsForm (take (at + 1) text ++ rest))
