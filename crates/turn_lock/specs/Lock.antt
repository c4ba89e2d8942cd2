-- What a clause says of a lock and of a seat.
use Rattle.std.specs.Prelude.{◌≡◌, false, List, [], ◌∷◌, length, drop, Option, Some, None}
use mathlib.Core.List.{IsPrefix}
use Rattle.std.specs.FinMap.{empty}
use Rattle.atomic_table.specs.declared.shared.Seat.{Seat}
use Rattle.atomic_table.specs.Table.{Me}
use Rattle.turn_lock.specs.declared.view.View.{View}
use Rattle.turn_lock.specs.declared.kept.Kept.{Ghosts}
use Rattle.turn_lock.specs.declared.turns.Turns.{Turns}
use Rattle.turn_lock.specs.declared.turns.TurnSeat.{TurnSeat}
use Rattle.turn_lock.specs.Turn.{Places, AreEntriesOf, HaveNoPlaceInBoth, IsLongerOf, with_entries, at_turn, after_turn, joined}

module _ {E O : Type 0} where
  -- the history that the one view has seen
  abbrev pub seen_of : List (View E O) → List E
  seen_of [] = []
  seen_of (v ∷ vs) = v.seen

  -- the own entries of the one view
  abbrev pub own_of : List (View E O) → Places E
  own_of [] = empty
  own_of (v ∷ vs) = v.own

  -- the origin of the one view
  abbrev pub origin_of : List (View E O) → Option O
  origin_of [] = None
  origin_of (v ∷ vs) = Some v.origin

-- the origin of the lock's value
abbrev pub lock_origin : {V E O : Type 0} → (V → O) → Turns V E O → O
lock_origin origin t = origin t.table.shared.key.value

-- the history that the seat has seen
abbrev pub seat_seen : {V E O : Type 0} {g : Ghosts V E O} → TurnSeat V E O g → List E
seat_seen s = seen_of s.seat.me.0

-- the seat's own entries, at their places in the history
abbrev pub seat_own : {V E O : Type 0} {g : Ghosts V E O} → TurnSeat V E O g → Places E
seat_own s = own_of s.seat.me.0

-- the seat is of this lock, has its origin, and each of its own entries stands in what it has seen, at its place
abbrev pub IsSeatOf : {V E O : Type 0} {g : Ghosts V E O} → (V → O) → Turns V E O → TurnSeat V E O g → Type 0
IsSeatOf origin t s = (s.seat.table_id ≡ t.table.shared.table_id) × (origin_of s.seat.me.0 ≡ Some (lock_origin origin t)) × AreEntriesOf (seat_own s) (seat_seen s)

-- One turn: the history found begins with what the seat had seen, the history left begins with it and is what the seat has seen then,
-- the new entries are the seat's own at their places, and the job's test holds
pub record HasTurned {E R : Type 0} (test : List E → List E → R → Type 0) (seen : List E) (own : Places E) (reply : R) (seen' : List E) (own' : Places E) : Type 0 where
  pub found : List E
  pub begins : IsPrefix seen found
  pub goes_on : IsPrefix found seen'
  pub own_is : own' ≡ with_entries own (length found) (drop (length found) seen')
  pub meets : test found seen' reply

module _ {V E O : Type 0} where
  -- the seat inside is of this lock, has its origin, one view and no slot, and does not hold the turn
  abbrev pub IsOneSeat : (V → O) → Turns V E O → Seat (Option V) (List (View E O)) → Type 0
  IsOneSeat origin t s = (s.table_id ≡ t.table.shared.table_id) × ((v : View E O) × (s.me ≡ (v ∷ [], [])) × (v.origin ≡ lock_origin origin t) × (v.holds ≡ false))

  -- the seat inside holds the turn, and the value is out of the table
  pub record HasTaken (origin : V → O) (history : V → List E) (me : Me (Option V) (List (View E O))) (value : V) (me' : Me (Option V) (List (View E O))) : Type 0 where
    pub mine : View E O
    pub was : me ≡ (mine ∷ [], [])
    pub origin_is : origin value ≡ mine.origin
    pub begins : IsPrefix mine.seen (history value)
    pub is : me' ≡ (at_turn mine (history value) ∷ [], (0, None) ∷ [])

  -- one turn, as the seat inside sees it
  pub record HasActed {R : Type 0} (test : List E → List E → R → Type 0) (me : Me (Option V) (List (View E O))) (reply : R) (me' : Me (Option V) (List (View E O))) : Type 0 where
    pub mine : View E O
    pub found : List E
    pub left : List E
    pub was : me ≡ (mine ∷ [], [])
    pub begins : IsPrefix mine.seen found
    pub goes_on : IsPrefix found left
    pub is : me' ≡ (after_turn (at_turn mine found) left ∷ [], [])
    pub meets : test found left reply

  -- two seats became one, as the seats inside see it
  pub record HasMerged (me other me' : Me (Option V) (List (View E O))) : Type 0 where
    pub mine : View E O
    pub theirs : View E O
    pub seen : List E
    pub was : me ≡ (mine ∷ [], [])
    pub other_was : other ≡ (theirs ∷ [], [])
    pub longer : IsLongerOf mine.seen theirs.seen seen
    pub apart : HaveNoPlaceInBoth mine.own theirs.own
    pub is : me' ≡ (joined mine theirs seen ∷ [], [])
