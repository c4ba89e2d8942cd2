-- Of two different tuples one is before the other, so at most one is the least that fails.
use Rattle.std.specs.Prelude.{◌≡◌, ◌<◌, ◌⊎◌, Bool, List, refl}
use Rattle.std.proofs.Common.{sym as back, ◌∙◌, ap, inl, inr}
use Rattle.std.proofs.lemmas.Bool.{cases_order}
use Rattle.label_tuples.specs.Extended.{Longer, singles, pairs, triples, fours}
use Rattle.label_tuples.specs.Order.{Then, Before1, Before2, Before3, Before4, IsLeastFailing}

-- they are equal, or one is before the other
pub data InOrder {X : Type 0} (Before : X → X → Type 0) (u v : X) : Type 0 where
  same : u ≡ v → InOrder Before u v
  before : Before u v → InOrder Before u v
  behind : Before v u → InOrder Before u v

abbrev pub IsTotal : {X : Type 0} → (X → X → Type 0) → Type 0
IsTotal {X} Before = (u v : X) → InOrder Before u v

module _ {T U : Type 0} (longer : Longer T U) (Before : T → T → Type 0) where
  open longer use {make, front, last, make_is}

  pub then_total : IsTotal Before → IsTotal (Then longer Before)
  then_total total u v = by_front (total (front u) (front v))
    where
      equal : front u ≡ front v → last u ≡ last v → u ≡ v
      equal e f = back (make_is u) ∙ ap (λ t. make t (last u)) e ∙ ap (make (front v)) f ∙ make_is v

      by_last : front u ≡ front v → (last u ≡ last v) ⊎ ((last u < last v) ⊎ (last v < last u)) → InOrder (Then longer Before) u v
      by_last e (inl f) = same (equal e f)
      by_last e (inr (inl l)) = before (inr (e, l))
      by_last e (inr (inr l)) = behind (inr (back e, l))

      by_front : InOrder Before (front u) (front v) → InOrder (Then longer Before) u v
      by_front (same e) = by_last e (cases_order (last u) (last v))
      by_front (before b) = before (inl b)
      by_front (behind b) = behind (inl b)

pub total1 : IsTotal Before1
total1 = then_total singles (λ _ _. ⊥) (λ u v. same refl)

total2 : IsTotal Before2
total2 = then_total pairs Before1 total1

pub total3 : IsTotal Before3
total3 = then_total triples Before2 total2

pub total4 : IsTotal Before4
total4 = then_total fours Before3 total3

pub one_least : {X : Type 0} (Before : X → X → Type 0) → IsTotal Before → (among : List X) (holds : X → Bool) (s t : X) → IsLeastFailing Before among holds s → IsLeastFailing Before among holds t → s ≡ t
one_least {X} Before total among holds s t h k = by_order (total s t)
  where
    by_order : InOrder Before s t → s ≡ t
    by_order (same e) = e
    by_order (before b) = absurd (cc (h.0, k.2 s h.1 b))
    by_order (behind b) = absurd (cc (k.0, h.2 t k.1 b))
