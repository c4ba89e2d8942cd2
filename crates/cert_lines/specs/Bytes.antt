-- The first place of a byte in a text.
use Rattle.std.specs.Prelude.{◌≡◌, ◌≢◌, ℕ, List, ◌∷◌, ◌++◌}
use Rattle.std.specs.List.{AllByRecursion}

-- the byte is not among these
abbrev pub Lacks : ℕ → List ℕ → Type 0
Lacks b text = AllByRecursion (λ (c : ℕ). c ≢ b) text

-- the first of these bytes stands between the two parts of the text
pub record IsSplitAt (b : ℕ) (text front rest : List ℕ) : Type 0 where
  pub joined : text ≡ front ++ b ∷ rest
  pub before : Lacks b front
