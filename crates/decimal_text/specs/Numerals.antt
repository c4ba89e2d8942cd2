-- Numbers in decimal digits.
use Rattle.std.specs.Prelude.{◌≡◌, ℕ, ◌+◌, ◌-◌, ◌*◌, ◌<◌, ◌≤◌, Bool, true, false, ◌&&◌, not, ◌==◌, nat_le, ℤ, unsigned_abs, List, [], ◌∷◌}
use Rattle.std.specs.Fmt.{signed_decimal}
use Rattle.decimal_text.specs.declared.NumeralFault.{NumeralFault}
use Rattle.decimal_text.specs.declared.NumeralFault.TheVariants.{Form, Range}

-- the byte is a digit
abbrev pub is_digit : ℕ → Bool
is_digit c = nat_le 48 c && nat_le c 57

-- each byte is a digit
abbrev pub are_digits : List ℕ → Bool
are_digits [] = true
are_digits (c ∷ cs) = is_digit c && are_digits cs

-- one digit, or more of which the first is not 0
abbrev pub is_numeral : List ℕ → Bool
is_numeral [] = false
is_numeral (c ∷ []) = is_digit c
is_numeral (c ∷ d ∷ ds) = not (c == 48) && (is_digit c && are_digits (d ∷ ds))

-- the number of n's digits and further ones
abbrev pub number_after : ℕ → List ℕ → ℕ
number_after n [] = n
number_after n (c ∷ cs) = number_after (10 * n + (c - 48)) cs

-- the number that the digits write
abbrev pub number : List ℕ → ℕ
number ds = number_after 0 ds

-- a number of any size that is above the greatest in range
pub record IsGreat (max : ℕ) (text : List ℕ) : Type 0 where
  pub numeral : is_numeral text ≡ true
  pub great : max < number text

-- the text is that of the signed number, of at most this absolute value: it has no leading zeros, and is not `-0`
pub record IsSignedText (max : ℕ) (text : List ℕ) (v : ℤ) : Type 0 where
  pub spelled : text ≡ signed_decimal v
  pub in_range : unsigned_abs v ≤ max

-- the text is no number, or one out of range
abbrev pub IsNumeralFault : ℕ → List ℕ → NumeralFault → Type 0
IsNumeralFault max text Form = is_numeral text ≡ false
IsNumeralFault max text Range = IsGreat max text
