-- The rule of a deck over all views.
use Rattle.std.specs.Prelude.{◌≡◌, ℕ, ◌+◌, ◌<◌, ◌≤◌, Bool, true, List, [], ◌∷◌, ◌++◌, length, slice_get, Some}
use mathlib.Core.Option.{some}
use lib.ListN.{get_elem?}
use Rattle.std.specs.FinMap.{get, insert, empty}
use Rattle.steal_deck.specs.declared.rule.Known.{Known}

-- one who has seen and taken nothing
abbrev pub newcomer : Bool → Known
newcomer b = record { owner = b; pushed = []; seen = 0; own = empty }

-- the same caller, once these numbers were pushed
abbrev pub with_pushed : Known → List ℕ → Known
with_pushed v xs = record { owner = v.owner; pushed = v.pushed ++ xs; seen = v.seen; own = v.own }

-- v is the view of the port
abbrev pub IsKnown : List Known → ℕ → Known → Type 0
IsKnown views port v = get_elem? views port ≡ some v

-- the place stands in the view
abbrev pub Has : Known → ℕ → Type 0
Has v place = (x : ℕ) × (get v.own place ≡ Some x)

-- what one view keeps of the deck: no more seen taken than were, the owner's list, and own places that were seen with the numbers pushed there
pub record Fits (pushed : List ℕ) (taken : ℕ) (v : Known) : Type 0 where
  pub below : v.seen ≤ taken
  pub owners : v.owner ≡ true → v.pushed ≡ pushed
  pub places : (k : ℕ) → Has v k → k < v.seen
  pub numbers : (k x : ℕ) → get v.own k ≡ Some x → slice_get pushed k ≡ Some x

-- the place stands in just one view
pub record StandsOnce (views : List Known) (place : ℕ) : Type 0 where
  pub port : ℕ
  pub view : Known
  pub is : IsKnown views port view
  pub has : Has view place
  pub once : (other : ℕ) (v : Known) → IsKnown views other v → Has v place → other ≡ port

-- The rule of a deck: the numbers left are those pushed without those taken, each view keeps to them, there is one owner,
-- and each place that was taken stands in just one view
pub record IsDeck (items : List ℕ) (views : List Known) : Type 0 where
  pub taken : List ℕ
  pub pushed : List ℕ
  pub split : pushed ≡ taken ++ items
  pub fits : (port : ℕ) (v : Known) → IsKnown views port v → Fits pushed (length taken) v
  pub one_owner : (i j : ℕ) (u v : Known) → IsKnown views i u → IsKnown views j v → u.owner ≡ true → v.owner ≡ true → i ≡ j
  pub each : (place : ℕ) → place < length taken → StandsOnce views place

-- the first number left was taken, and stands at its place among the caller's own
pub record TakesFirst (v : Known) (xs : List ℕ) (w : Known) : Type 0 where
  pub number : ℕ
  pub place : ℕ
  pub is : xs ≡ number ∷ []
  pub later : v.seen ≤ place
  pub after : w ≡ record { owner = v.owner; pushed = v.pushed; seen = place + 1; own = insert v.own place number }

-- the same for the owner, who knows which number stands at that place
pub record OwnerTakes (v : Known) (xs : List ℕ) (w : Known) : Type 0 where
  pub takes : TakesFirst v xs w
  pub stands : slice_get v.pushed takes.place ≡ Some takes.number

-- there was a moment when nothing was left, at which the caller knew this
pub record FoundEmpty (v : Known) : Type 0 where
  pub views : List Known
  pub port : ℕ
  pub deck : IsDeck [] views
  pub is : IsKnown views port v
