-- Monomials as words: the exponent of each variable of a layout stands in sixteen bits of a word.
use Rattle.std.specs.Prelude.{◌≡◌, ◌<◌, ◌≤◌, ℕ, zero, suc, ◌+◌, ◌*◌, ◌/◌, ◌%◌, ◌^◌, if◌then◌else◌, nat_lt, List, [], ◌∷◌, length}
use Rattle.std.specs.List.{AllByRecursion, Contains}
use Rattle.monomial.specs.Monomials.{exponent}

-- sixteen bits of a word, where places count from the lowest
abbrev pub lane : ℕ → ℕ → ℕ
lane w n = (w / 2 ^ (16 * n)) % 65536

-- those at the places below n, from the highest down
unfoldable pub lanes : ℕ → ℕ → List ℕ
lanes zero w = []
lanes (suc n) w = lane w n ∷ lanes n w

-- numbers that fall strictly
abbrev pub AreFalling : List ℕ → Type 0
AreFalling [] = Unit {0}
AreFalling (v ∷ vs) = AllByRecursion (λ u. u < v) vs × AreFalling vs

-- eight variables below 65,536, from the greatest down
pub record IsLayout (vs : List ℕ) : Type 0 where
  pub falling : AreFalling vs
  pub in_range : AllByRecursion (λ v. v < 65536) vs
  pub eight : length vs ≡ 8

-- the word of a monomial, where the greatest variable stands highest
abbrev pub word_of : List ℕ → List (ℕ × ℕ) → ℕ
word_of [] m = 0
word_of (v ∷ vs) m = exponent m v * 2 ^ (16 * length vs) + word_of vs m

-- the monomial of a word
abbrev pub monomial_of : List ℕ → ℕ → List (ℕ × ℕ)
monomial_of [] w = []
monomial_of (v ∷ vs) w = if nat_lt 0 (lane w (length vs)) then (v, lane w (length vs)) ∷ monomial_of vs w else monomial_of vs w

-- each variable is one of the layout, and no exponent is above 32,767, so that the words of two such monomials add up to that of their product
abbrev pub FitsLayout : List ℕ → List (ℕ × ℕ) → Type 0
FitsLayout vs m = AllByRecursion (λ (p : ℕ × ℕ). Contains vs p.0 × (p.1 ≤ 32767)) m

-- w is the word of a monomial in a layout
pub record IsWordIn (vs : List ℕ) (m : List (ℕ × ℕ)) (w : ℕ) : Type 0 where
  pub layout : IsLayout vs
  pub value : w ≡ word_of vs m
  pub fits : FitsLayout vs m
