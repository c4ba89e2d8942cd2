-- The origin of a seat stays the same, and its own entries stand in what it has seen.
use Rattle.std.proofs.Common.{◌≡◌, ℕ, ◌+◌, List, [], ◌∷◌, length, drop, slice_get, Option, Some, refl, sym, ap, ◌∙◌, subst, ⊎_elim}
use Rattle.std.specs.FinMap.{empty}
use mathlib.Core.List.{IsPrefix}
use Rattle.atomic_table.specs.Table.{Me}
use Rattle.turn_lock.specs.declared.view.View.{View}
use Rattle.turn_lock.specs.Turn.{AreEntriesOf, IsLongerOf, Stands, at_turn, after_turn, joined, newcomers}
use Rattle.turn_lock.specs.Lock.{HasActed, HasMerged, origin_of, own_of, seen_of}
use Rattle.turn_lock.proofs.Places.{get_with_entries, get_both_own, none_own}
use Rattle.turn_lock.proofs.Prefixes.{prefix_get, get_drop}

pub nothing_stands : {E : Type 0} (h : List E) → AreEntriesOf empty h
nothing_stands h n e is = absurd (none_own n e is)

module _ {E O : Type 0} where
  pub found_stands : (v : View E O) (h : List E) → Stands v → IsPrefix v.seen h → Stands (at_turn v h)
  found_stands v h old begins n e is = prefix_get v.seen h n e begins (old n e is)

  pub turn_stands : (v : View E O) (h : List E) → Stands v → IsPrefix v.seen h → Stands (after_turn v h)
  turn_stands v h old begins n e is = ⊎_elim (λ g. prefix_get v.seen h n e begins (old n e g))
      (λ (t : (k : ℕ) × (n ≡ length v.seen + k) × (slice_get (drop (length v.seen) h) k ≡ Some e)). subst (λ (j : ℕ). slice_get h j ≡ Some e) (sym t.1) (get_drop (length v.seen) h t.0 e t.2))
      (get_with_entries v.own (length v.seen) (drop (length v.seen) h) n e is)

  pub join_stands : (v w : View E O) (h : List E) → Stands v → Stands w → IsLongerOf v.seen w.seen h → Stands (joined v w h)
  join_stands v w h old other l n e is = ⊎_elim (λ g. prefix_get v.seen h n e l.first (old n e g)) (λ g. prefix_get w.seen h n e l.second (other n e g)) (get_both_own v.own w.own n e is)

  pub newcomers_stand : (vs : List (View E O)) → AreEntriesOf (own_of (newcomers vs)) (seen_of (newcomers vs))
  newcomers_stand [] = nothing_stands []
  newcomers_stand (v ∷ vs) = nothing_stands v.seen

  pub newcomers_origin : (vs : List (View E O)) → origin_of (newcomers vs) ≡ origin_of vs
  newcomers_origin [] = refl
  newcomers_origin (v ∷ vs) = refl

module _ {V E O : Type 0} where
  abbrev pub SeatStands : Me (Option V) (List (View E O)) → Type 0
  SeatStands me = AreEntriesOf (own_of me.0) (seen_of me.0)

  abbrev pub seat_origin : Me (Option V) (List (View E O)) → Option O
  seat_origin me = origin_of me.0

  pub acted_origin : {R : Type 0} (test : List E → List E → R → Type 0) (me : Me (Option V) (List (View E O))) (reply : R) (me' : Me (Option V) (List (View E O))) → HasActed test me reply me' → seat_origin me' ≡ seat_origin me
  acted_origin test me reply me' a = ap seat_origin a.is ∙ sym (ap seat_origin a.was)

  pub acted_stands : {R : Type 0} (test : List E → List E → R → Type 0) (me : Me (Option V) (List (View E O))) (reply : R) (me' : Me (Option V) (List (View E O))) → HasActed test me reply me' → SeatStands me → SeatStands me'
  acted_stands test me reply me' a old =
      let v = at_turn a.mine a.found in
      subst SeatStands (sym a.is) (turn_stands v a.left (found_stands a.mine a.found (subst SeatStands a.was old) a.begins) a.goes_on)

  pub merged_origin : (me other me' : Me (Option V) (List (View E O))) → HasMerged me other me' → seat_origin me' ≡ seat_origin me
  merged_origin me other me' m = ap seat_origin m.is ∙ sym (ap seat_origin m.was)

  pub merged_stands : (me other me' : Me (Option V) (List (View E O))) → HasMerged me other me' → SeatStands me → SeatStands other → SeatStands me'
  merged_stands me other me' m old theirs = subst SeatStands (sym m.is) (join_stands m.mine m.theirs m.seen (subst SeatStands m.was old) (subst SeatStands m.other_was theirs) m.longer)
