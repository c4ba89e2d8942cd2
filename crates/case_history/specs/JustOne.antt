-- The pending cases and the published leaves at which an assignment is.
use Rattle.std.specs.Prelude.{◌≡◌, ◌⊎◌, ℕ, List, slice_get}
use Rattle.std.specs.declared.option.Option.TheVariants.{Some}
use Rattle.derive_lines.specs.declared.parts.Decision.{Decision}
use Rattle.leaf_cert.specs.Parts.{LeafParts}
use Rattle.leaf_cert.specs.declared.certificate.RawEntry.{RawEntry}
use Rattle.case_history.specs.History.{publish, fate, IsPending, decisions_of}

-- case n is pending, and the assignment holds at its decisions
pub record IsAtPending (holds : List Decision → Type 0) (h : List RawEntry) (n : ℕ) : Type 0 where
  pub pending : IsPending h n
  pub holds_there : holds (decisions_of h n)

-- the leaf of case n was published, and the assignment meets it
pub record IsAtLeaf (meets : LeafParts → Type 0) (h : List RawEntry) (n : ℕ) : Type 0 where
  pub leaf : LeafParts
  pub place : ℕ
  pub published : fate h n ≡ Some (record { place = place; entry = publish n leaf })
  pub meets_it : meets leaf

-- the assignment is at case n, which is pending or has a published leaf
abbrev pub IsAtCase : (List Decision → Type 0) → (LeafParts → Type 0) → List RawEntry → ℕ → Type 0
IsAtCase holds meets h n = IsAtPending holds h n ⊎ IsAtLeaf meets h n

-- the assignment solves the root exactly if it is at a pending case or a published leaf, and then it is at just one
pub record IsAtJustOne (solves : Type 0) (holds : List Decision → Type 0) (meets : LeafParts → Type 0) (h : List RawEntry) : Type 0 where
  pub some : solves → (n : ℕ) × IsAtCase holds meets h n
  pub only : (n : ℕ) → IsAtCase holds meets h n → solves
  pub one : (n m : ℕ) → IsAtCase holds meets h n → IsAtCase holds meets h m → n ≡ m

-- the entry at this place, counted from the oldest, publishes a leaf that the assignment meets
pub record IsLeafAt (meets : LeafParts → Type 0) (entries : List RawEntry) (place : ℕ) : Type 0 where
  pub n : ℕ
  pub leaf : LeafParts
  pub is : slice_get entries place ≡ Some (publish n leaf)
  pub meets_it : meets leaf

-- the assignment solves the root exactly if it meets a published leaf, and then it meets just one
pub record MeetsJustOneLeaf (solves : Type 0) (meets : LeafParts → Type 0) (entries : List RawEntry) : Type 0 where
  pub some : solves → (place : ℕ) × IsLeafAt meets entries place
  pub only : (place : ℕ) → IsLeafAt meets entries place → solves
  pub one : (place other : ℕ) → IsLeafAt meets entries place → IsLeafAt meets entries other → place ≡ other
