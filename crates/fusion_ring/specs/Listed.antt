-- The ring that a list of triples states.
use Rattle.std.specs.Prelude.{◌≡◌, ℕ, ◌<◌, ◌⊎◌, Bool, ◌&&◌, ◌||◌, not, ◌==◌, nat_lt, List, map, count_by, Contains}
use Rattle.std.specs.List.{list_any}
use Rattle.label_tuples.specs.Extended.{all_triples}
use Rattle.fusion_ring.specs.declared.Triple.{Triple}
use Rattle.fusion_ring.specs.Fusion.{Fusion}

-- all three numbers are labels
abbrev pub is_in_range : ℕ → Triple → Bool
is_in_range n p = nat_lt p.a n && nat_lt p.b n && nat_lt p.c n

-- the triple is the one of these labels
abbrev pub is_at : ℕ × ℕ × ℕ → Triple → Bool
is_at t p = p.a == t.0 && p.b == t.1 && p.c == t.2

abbrev pub is_listed : List Triple → ℕ × ℕ × ℕ → Bool
is_listed products t = list_any (is_at t) products

-- it is listed at most once
abbrev pub is_single : List Triple → ℕ × ℕ × ℕ → Bool
is_single products t = nat_lt (count_by (is_at t) products) 2

-- the products of the unit: 0 times b is b, and a times 0 is a
abbrev pub is_unit_product : ℕ × ℕ × ℕ → Bool
is_unit_product t = t.0 == 0 && t.2 == t.1 || t.1 == 0 && t.2 == t.0

-- another channel of a product with the unit
abbrev pub breaks_unit : ℕ × ℕ × ℕ → Bool
breaks_unit t = t.0 == 0 && not (t.2 == t.1) || t.1 == 0 && not (t.2 == t.0)

-- it is not listed, or breaks no product of the unit
abbrev pub keeps_unit : List Triple → ℕ × ℕ × ℕ → Bool
keeps_unit products t = not (is_listed products t && breaks_unit t)

-- N(a,b,c) = 1 for the listed triples and for the products of the unit
abbrev pub is_product : List Triple → ℕ × ℕ × ℕ → Bool
is_product products t = is_listed products t || is_unit_product t

abbrev pub stated : ℕ → List Triple → Fusion
stated n products = record { labels = n; table = map (is_product products) (all_triples n) }

-- a product with the unit: 0 times the label b is b, and the label a times 0 is a
abbrev pub IsUnitProduct : ℕ → Triple → Type 0
IsUnitProduct n p = ((p.a ≡ 0) × (p.b < n) × (p.c ≡ p.b)) ⊎ ((p.b ≡ 0) × (p.a < n) × (p.c ≡ p.a))

-- the list of a ring of n labels says that the product of a and b has the channel c
abbrev pub IsStatedProduct : ℕ → List Triple → Triple → Type 0
IsStatedProduct n products p = Contains products p ⊎ IsUnitProduct n p
