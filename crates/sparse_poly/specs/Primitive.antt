-- Primitive polynomials.
use Rattle.std.specs.Prelude.{◌≡◌, ◌≢◌, ℕ, ℤ, pos, ◌<ℤ◌, unsigned_abs, List, [], ◌∷◌}
use Prim.Native.Nat.{◌∣◌}
use Rattle.std.specs.List.{AllByRecursion}
use Rattle.sparse_poly.specs.declared.Term.{Term}
use Rattle.sparse_poly.specs.Polynomials.{scaled}

-- d divides each coefficient
abbrev pub DividesAll : ℕ → List Term → Type 0
DividesAll d p = AllByRecursion (λ (t : Term). d ∣ unsigned_abs t.coeff) p

-- zero, or the leading coefficient is positive, and 1 alone divides all coefficients
abbrev pub IsPrimitive : List Term → Type 0
IsPrimitive [] = Unit {0}
IsPrimitive (t ∷ ts) = (pos 0 <ℤ t.coeff) × ((d : ℕ) → DividesAll d (t ∷ ts) → d ≡ 1)

-- q is primitive, and p is q times a nonzero whole number
pub record IsPrimitivePart (p q : List Term) : Type 0 where
  pub primitive : IsPrimitive q
  pub content : ℤ
  pub nonzero : content ≢ pos 0
  pub product : scaled content q ≡ p
