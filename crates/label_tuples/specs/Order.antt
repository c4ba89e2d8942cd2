-- The lexicographic order of tuples of labels.
use Rattle.std.specs.Prelude.{◌≡◌, ◌≢◌, ℕ, ◌<◌, ◌⊎◌, Bool, true, false, Option, Some, None, List, [], ◌∷◌, Contains}
use Rattle.label_tuples.specs.Extended.{Longer, singles, pairs, triples, fours, fives, sixes}

-- the order of the fronts, and then of the last labels
abbrev pub Then : {T U : Type 0} → Longer T U → (T → T → Type 0) → U → U → Type 0
Then longer Before u v = Before (longer.front u) (longer.front v) ⊎ ((longer.front u ≡ longer.front v) × (longer.last u < longer.last v))

abbrev pub Before1 : ℕ → ℕ → Type 0
Before1 = Then singles (λ _ _. ⊥)

abbrev pub Before2 : ℕ × ℕ → ℕ × ℕ → Type 0
Before2 = Then pairs Before1

abbrev pub Before3 : ℕ × ℕ × ℕ → ℕ × ℕ × ℕ → Type 0
Before3 = Then triples Before2

abbrev pub Before4 : ℕ × ℕ × ℕ × ℕ → ℕ × ℕ × ℕ × ℕ → Type 0
Before4 = Then fours Before3

abbrev pub Before5 : ℕ × ℕ × ℕ × ℕ × ℕ → ℕ × ℕ × ℕ × ℕ × ℕ → Type 0
Before5 = Then fives Before4

abbrev pub Before6 : ℕ × ℕ × ℕ × ℕ × ℕ × ℕ → ℕ × ℕ × ℕ × ℕ × ℕ × ℕ → Type 0
Before6 = Then sixes Before5

-- none stands twice, or behind one that it is before
abbrev pub Ascending : {X : Type 0} → (X → X → Type 0) → List X → Type 0
Ascending Before [] = Unit {0}
Ascending {X} Before (x ∷ xs) = ((y : X) → Contains xs y → (y ≢ x) × ¬ Before y x) × Ascending Before xs

-- the least that fails
abbrev pub IsLeastFailing : {X : Type 0} → (X → X → Type 0) → List X → (X → Bool) → X → Type 0
IsLeastFailing {X} Before among holds t = (holds t ≡ false) × Contains among t × ((s : X) → Contains among s → Before s t → holds s ≡ true)

-- the least that fails, or none where all hold
abbrev pub IsLeastFault : {X : Type 0} → (X → X → Type 0) → List X → (X → Bool) → Option X → Type 0
IsLeastFault {X} Before among holds None = (s : X) → Contains among s → holds s ≡ true
IsLeastFault Before among holds (Some t) = IsLeastFailing Before among holds t
