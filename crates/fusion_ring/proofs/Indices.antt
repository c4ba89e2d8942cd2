-- The table of a ring.
use Rattle.std.specs.Prelude.{◌≡◌, ℕ, ◌<◌, ◌+◌, ◌*◌, List, Bool, true, false, ◌&&◌, nat_lt, length, slice_index_or, refl}
use Rattle.std.proofs.Common.{◌∙◌, arith, lt-ltb}
use Rattle.std.proofs.lemmas.Grind.{rows}
use Rattle.std.proofs.lemmas.List.{get_or_default}
use Rattle.fusion_ring.specs.Fusion.{channel}

row_below : (i j m n : ℕ) → i < m → j < n → i * n + j < m * n
row_below i j m n h k = grind (arith, rows)

pub in_table : (a b c r : ℕ) → a < r → b < r → c < r → (a * r + b) * r + c < r * r * r
in_table a b c r i j k = row_below (a * r + b) c (r * r) r (row_below a b r r i j) k

and_true : (x y z w : Bool) → x ≡ true → y ≡ true → z ≡ true → w ≡ ((x && y && z) && w)
and_true true true true w e f g = refl
and_true true true false w e f g = absurd (cc g)
and_true true false z w e f g = absurd (cc f)
and_true false y z w e f g = absurd (cc e)

pub channel_of : (xs : List Bool) (r a b c : ℕ) (v : Bool) → a < r → b < r → c < r → length xs ≡ r * r * r → v ≡ slice_index_or xs ((a * r + b) * r + c) v → v ≡ channel (record { labels = r; table = xs }) a b c
channel_of xs r a b c v i j k l e =
    e ∙ get_or_default xs ((a * r + b) * r + c) v false (rw l (in_table a b c r i j k))
    ∙ and_true (nat_lt a r) (nat_lt b r) (nat_lt c r) _ (lt-ltb a r i) (lt-ltb b r j) (lt-ltb c r k)
