-- The fields of a line, which stand between its spaces.
use Rattle.std.specs.Prelude.{ℕ, ◌==◌, if◌then◌else◌, Option, None, Some, List, [], ◌∷◌}
use denote.Ref.{Bor}

-- a byte before the first field
abbrev pub before_first : ℕ → List (List ℕ) → List (List ℕ)
before_first c [] = (c ∷ []) ∷ []
before_first c (f ∷ fs) = (c ∷ f) ∷ fs

-- the fields of a line
abbrev pub words : List ℕ → List (List ℕ)
words [] = [] ∷ []
words (c ∷ cs) = if c == 32 then [] ∷ words cs else before_first c (words cs)

-- the fields that are left, where all have been read or this part of the line is left
abbrev pub left : Option (Bor (List ℕ)) → List (List ℕ)
left None = []
left (Some part) = words part.now

-- the first of some fields
abbrev pub first : List (List ℕ) → List ℕ
first [] = []
first (f ∷ fs) = f
