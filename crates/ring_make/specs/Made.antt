-- Problems whose ring is a finite group: the product of two labels is one label.
use Rattle.std.specs.Prelude.{◌≡◌, ◌↔◌, ◌<◌, ◌+◌, ◌%◌, ◌^◌, ℕ, IsTrue, List, []}
use Rattle.std.specs.Int.Bits.{bit_xor}
use Rattle.label_tuples.specs.Extended.{every, all_singles}
use Rattle.fusion_ring.specs.declared.Triple.{Triple}
use Rattle.fusion_ring.specs.Fusion.{channel}
use Rattle.fusion_ring.specs.Faults.{IsRingOf}
use Rattle.ring_file.specs.Problems.{Stated}

-- the products of all labels below n
abbrev pub all_products : (ℕ → ℕ → ℕ) → ℕ → List Triple
all_products product n = every (λ a b. record { a = a; b = b; c = product a b }) (all_singles n) n

-- the problem of the ring of n labels in which a * b = product a b, without gauge
pub record IsPointed (n : ℕ) (product : ℕ → ℕ → ℕ) (p : Stated) : Type 0 where
  pub labels : p.ring.labels ≡ n
  pub products : (a b c : ℕ) → a < n → b < n → IsTrue (channel p.ring a b c) ↔ (c ≡ product a b)
  pub no_gauge : p.gauge ≡ []
  -- it is the ring that the list of these products states
  pub ring : IsRingOf n (all_products product n) p.ring

-- a * b = (a + b) mod n
abbrev pub IsCyclic : ℕ → Stated → Type 0
IsCyclic n p = IsPointed n (λ a b. (a + b) % n) p

-- a * b = a xor b, on 2^k labels
abbrev pub IsCube : ℕ → Stated → Type 0
IsCube k p = IsPointed (2 ^ k) bit_xor p
