-- What the words of a check ask for.
use Rattle.std.specs.Prelude.{◌≡◌, ℕ, Bool, false, List, [], ◌∷◌, codes, length}
use Rattle.std.specs.Str.{bytes_eq}

-- there are two words, and the first is `--migrate`
abbrev pub asks_migration : List (List ℕ) → Bool
asks_migration (first ∷ second ∷ []) = bytes_eq first (codes "--migrate")
asks_migration words = false

-- there are two words, and the first is not `--migrate`
pub record AsksCheck (words : List (List ℕ)) : Type 0 where
  pub two : length words ≡ 2
  pub plain : asks_migration words ≡ false
