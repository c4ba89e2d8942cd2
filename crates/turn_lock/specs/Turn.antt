-- The rule of the turn lock over all views, and what its steps tell.
use Rattle.std.specs.Prelude.{◌≡◌, ◌⊎◌, ℕ, ◌+◌, ◌≢◌, Bool, not, true, false, List, [], ◌∷◌, length, drop, slice_get, Option, Some}
use mathlib.Core.List.{IsPrefix}
use mathlib.Core.Option.{some, none}
use mathlib.Core.Option as maybe
use lib.ListN.{get_elem?}
use Rattle.std.specs.FinMap.{FinMap, get, insert, empty, entries}
use Rattle.std.specs.Ordering.{nat_cmp}
use Rattle.atomic_table.specs.Table.{Me}
use Rattle.turn_lock.specs.declared.view.View.{View}

-- entries at their places
abbrev pub Places : Type 0 → Type 0
Places E = FinMap nat_cmp E

-- the map, with the entries at the places from n on
abbrev pub with_entries : {E : Type 0} → Places E → ℕ → List E → Places E
with_entries m n [] = m
with_entries m n (e ∷ es) = insert (with_entries m (n + 1) es) n e

-- the map, with the entries of a list of pairs
abbrev pub with_pairs : {E : Type 0} → Places E → List (ℕ × E) → Places E
with_pairs m [] = m
with_pairs m (e ∷ es) = insert (with_pairs m es) e.0 e.1

-- the entries of both maps
abbrev pub both_own : {E : Type 0} → Places E → Places E → Places E
both_own m n = with_pairs m (entries n)

-- each entry of the map stands in the history, at its place
abbrev pub AreEntriesOf : {E : Type 0} → Places E → List E → Type 0
AreEntriesOf {E} m h = (n : ℕ) (e : E) → get m n ≡ Some e → slice_get h n ≡ Some e

-- no place stands in both maps
abbrev pub HaveNoPlaceInBoth : {E : Type 0} → Places E → Places E → Type 0
HaveNoPlaceInBoth {E} m n = (k : ℕ) (d e : E) → get m k ≡ Some d → get n k ≡ Some e → ⊥

-- l is one of two histories, and both are beginnings of it
pub record IsLongerOf {E : Type 0} (xs ys l : List E) : Type 0 where
  pub one : (l ≡ xs) ⊎ (l ≡ ys)
  pub first : IsPrefix xs l
  pub second : IsPrefix ys l

module _ {E O : Type 0} where
  -- a seat that has seen this much, and has no entry of its own
  abbrev pub newcomer : O → List E → View E O
  newcomer o h = record { holds = false; origin = o; seen = h; own = empty }

  -- what a seat that is made of another begins with
  abbrev pub newcomers : List (View E O) → List (View E O)
  newcomers [] = []
  newcomers (v ∷ vs) = newcomer v.origin v.seen ∷ []

  -- the view once it has the turn, with a value of this history
  abbrev pub at_turn : View E O → List E → View E O
  at_turn v h = record { holds = true; origin = v.origin; seen = h; own = v.own }

  -- the view after a turn that left this history: what is new in it is its own
  abbrev pub after_turn : View E O → List E → View E O
  after_turn v h = record { holds = false; origin = v.origin; seen = h; own = with_entries v.own (length v.seen) (drop (length v.seen) h) }

  -- the one view of two that have seen this history between them
  abbrev pub joined : View E O → View E O → List E → View E O
  joined v w h = record { holds = false; origin = v.origin; seen = h; own = both_own v.own w.own }

  -- v is the i-th view of seat j
  pub record IsView (views : List (List (View E O))) (j i : ℕ) (v : View E O) : Type 0 where
    pub all : List (View E O)
    pub seat : get_elem? views j ≡ some all
    pub at : slice_get all i ≡ Some v

  -- it holds of every view
  abbrev pub EachView : List (List (View E O)) → (ℕ → ℕ → View E O → Type 0) → Type 0
  EachView views P = (j i : ℕ) (v : View E O) → IsView views j i v → P j i v

  -- no place stands in the own entries of two views
  abbrev pub AreApart : List (List (View E O)) → Type 0
  AreApart views = (j i l k : ℕ) (u v : View E O) → IsView views j i u → IsView views l k v → (j ≡ l → i ≡ k → ⊥) → HaveNoPlaceInBoth u.own v.own

  -- each own entry stands in the history seen, at its place
  abbrev pub Stands : View E O → Type 0
  Stands v = AreEntriesOf v.own v.seen

module _ {V E O : Type 0} (origin : V → O) (history : V → List E) where
  -- the value is at home, and no view holds the turn
  pub record IsHome (words : List ℕ) (homes : List (maybe.Option (Option V))) (views : List (List (View E O))) : Type 0 where
    pub value : V
    pub word : words ≡ 0 ∷ []
    pub home : homes ≡ some (Some value) ∷ []
    pub free : EachView views (λ j i v. v.holds ≡ false)
    pub from : EachView views (λ j i v. v.origin ≡ origin value)
    pub seen : EachView views (λ j i v. IsPrefix v.seen (history value))

  -- the value is out with the one seat whose view holds the turn
  pub record IsOut (words : List ℕ) (homes : List (maybe.Option (Option V))) (views : List (List (View E O))) : Type 0 where
    pub holder : ℕ
    pub mine : View E O
    pub word : words ≡ 1 ∷ []
    pub home : homes ≡ none ∷ []
    pub has : mine.holds ≡ true
    pub at : IsView views holder 0 mine
    pub free : EachView views (λ j i v. (j ≡ holder → i ≡ 0 → ⊥) → v.holds ≡ false)
    pub seen : EachView views (λ j i v. IsPrefix v.seen mine.seen)

  -- the rule of the table: where the value is, one origin, and own entries that are apart and stand in what was seen
  pub record IsKept (o : O) (words : List ℕ) (homes : List (maybe.Option (Option V))) (views : List (List (View E O))) : Type 0 where
    pub stage : IsHome words homes views ⊎ IsOut words homes views
    pub same : EachView views (λ j i v. v.origin ≡ o)
    pub apart : AreApart views
    pub stands : EachView views (λ j i v. Stands v)

  -- the turn was free, and the seat has it, with a value whose history begins with all that it had seen
  pub record Takes (me new : Me (Option V) (List (View E O))) : Type 0 where
    pub mine : View E O
    pub value : V
    pub was : me.0 ≡ mine ∷ []
    pub origin_is : origin value ≡ mine.origin
    pub begins : IsPrefix mine.seen (history value)
    pub is : new ≡ (at_turn mine (history value) ∷ [], (0, Some value) ∷ me.1)

  -- the turn was free and is taken, or it was not and nothing changes
  abbrev pub Tries : Me (Option V) (List (View E O)) → ℕ → Me (Option V) (List (View E O)) → Type 0
  Tries me found new = ((found ≡ 0) × Takes me new) ⊎ ((found ≢ 0) × (new ≡ me))

module _ {V E O : Type 0} (history : V → List E) where
  -- the value went home, and what is new in its history is the seat's own
  pub record Releases (me new : Me (Option V) (List (View E O))) : Type 0 where
    pub mine : View E O
    pub value : V
    pub was : me ≡ (mine ∷ [], (0, Some value) ∷ [])
    pub is : new ≡ (after_turn mine (history value) ∷ [], [])

module _ {V E O : Type 0} where
  -- of two views that became one: the longer history begins with the other, and no place stood in the own entries of both
  pub record Merges (me new : Me (Option V) (List (View E O))) : Type 0 where
    pub mine : View E O
    pub other : View E O
    pub seen : List E
    pub was : me ≡ (mine ∷ other ∷ [], [])
    pub longer : IsLongerOf mine.seen other.seen seen
    pub apart : HaveNoPlaceInBoth mine.own other.own
    pub is : new ≡ (joined mine other seen ∷ [], [])

-- one view, which does not hold the turn
abbrev pub is_idle : {E O : Type 0} → List (View E O) → Bool
is_idle [] = false
is_idle (v ∷ []) = not v.holds
is_idle (v ∷ w ∷ vs) = false
