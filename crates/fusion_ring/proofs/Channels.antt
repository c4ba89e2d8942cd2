-- A channel's three numbers are labels.
use Rattle.std.specs.Prelude.{ℕ, ◌<◌, Bool, true, false, IsTrue, ◌&&◌, nat_lt, refl}
use Rattle.std.proofs.Common.{arith}
use Rattle.std.proofs.lemmas.Bool.Decides.{nat_tests}
use Rattle.fusion_ring.specs.Fusion.{Fusion, channel}

pub and_intro : (b c : Bool) → IsTrue b → IsTrue c → IsTrue (b && c)
and_intro true c h k = k
and_intro false c h k = h

pub and_left : (b c : Bool) → IsTrue (b && c) → IsTrue b
and_left true c h = refl
and_left false c h = h

pub and_right : (b c : Bool) → IsTrue (b && c) → IsTrue c
and_right true c h = h
and_right false c h = absurd (cc h)

pub below_of : (a n : ℕ) → IsTrue (nat_lt a n) → a < n
below_of a n h = grind (arith, nat_tests)

module _ (r : Fusion) (a b c : ℕ) (h : IsTrue (channel r a b c)) where
  all_below : IsTrue (nat_lt a r.labels && nat_lt b r.labels && nat_lt c r.labels)
  all_below = and_left _ _ h

  pub first_below : a < r.labels
  first_below = below_of a r.labels (and_left _ _ (and_left _ _ all_below))

  pub second_below : b < r.labels
  second_below = below_of b r.labels (and_right (nat_lt a r.labels) _ (and_left _ _ all_below))

  pub channel_below : c < r.labels
  channel_below = below_of c r.labels (and_right (nat_lt a r.labels && nat_lt b r.labels) _ all_below)
