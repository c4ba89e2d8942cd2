-- Patterns in the order of their numbers, and which of them are live.
use Rattle.std.specs.Prelude.{◌≡◌, ◌<◌, ℕ, Some, List, Contains, slice_get}

-- each member of p is in q
abbrev pub IsWithin : {D : Type 0} → List D → List D → Type 0
IsWithin {D} p q = (d : D) → Contains p d → Contains q d

-- pattern k is p
abbrev pub IsPattern : {D : Type 0} → List (List D) → ℕ → List D → Type 0
IsPattern ps k p = slice_get ps k ≡ Some p

-- no pattern after number k is within p
abbrev pub IsUnmet : {D : Type 0} → List (List D) → ℕ → List D → Type 0
IsUnmet {D} ps k p = (j : ℕ) (q : List D) → k < j → IsPattern ps j q → IsWithin q p → ⊥

-- pattern k is live: it is there, and no later pattern is within it
pub record IsLive {D : Type 0} (ps : List (List D)) (k : ℕ) : Type 0 where
  pub pattern : List D
  pub is : IsPattern ps k pattern
  pub unmet : IsUnmet ps k pattern

-- pattern k is live and within the list
pub record IsLiveWithin {D : Type 0} (ps : List (List D)) (ds : List D) (k : ℕ) : Type 0 where
  pub pattern : List D
  pub is : IsPattern ps k pattern
  pub unmet : IsUnmet ps k pattern
  pub within : IsWithin pattern ds

-- pattern k is the least live one within the list
pub record IsLeastLiveWithin {D : Type 0} (ps : List (List D)) (ds : List D) (k : ℕ) : Type 0 where
  pub live : IsLiveWithin ps ds k
  pub least : (j : ℕ) → j < k → IsLiveWithin ps ds j → ⊥

-- no live pattern is within the list
abbrev pub HasNoneWithin : {D : Type 0} → List (List D) → List D → Type 0
HasNoneWithin ps ds = (k : ℕ) → IsLiveWithin ps ds k → ⊥
