-- Bits of variables.
use Rattle.std.specs.Prelude.{◌≡◌, ◌≢◌, ◌<◌, ◌⊎◌, ◌*◌, ◌%◌, ◌^◌, ◌==◌, ℕ, zero, suc, true, false, if◌then◌else◌, List, ◌∷◌, refl}
use mathlib.Core.Logic.{inl, inr}
use Rattle.std.proofs.Common.{arith, ◌∙◌, subst, ap, w64}
use Rattle.std.specs.Int.{bit_at}
use Rattle.std.specs.Int.Bits.{bit_or, bit_and}
use Rattle.std.proofs.lemmas.Bool.Decides.{eqb_tells}
use Rattle.std.proofs.lemmas.Nat.Bits.{bit_at_or, bit_at_and, bit_at-lt, bit_at-zero, bit_at_set_same, bit_at_ones}
use Rattle.monomial.specs.Monomials.{exponent}
use Rattle.sparse_poly.specs.declared.Term.{Term}
use Rattle.sparse_poly.specs.Reads.{degree_in}
use Rattle.sparse_poly.specs.Clearing.{IsDividedBy}
use Rattle.case_system.specs.Outlines.{HasBit, HasBits}

-- a bit of one of two sets is in both together, and a bit of both in what they share
pub bit_left : (a b v : ℕ) → HasBit a v → HasBit (bit_or a b) v
bit_left a b v h = let small = bit_at-lt b (v % 64) in bit_at_or a b (v % 64) ∙ omega (arith, h, small)

pub bit_right : (a b v : ℕ) → HasBit b v → HasBit (bit_or a b) v
bit_right a b v h = let small = bit_at-lt a (v % 64) in bit_at_or a b (v % 64) ∙ omega (arith, h, small)

pub bit_of_both : (a b v : ℕ) → HasBit a v → HasBit b v → HasBit (bit_and a b) v
bit_of_both a b v h k = bit_at_and a b (v % 64) ∙ omega (arith, h, k)

-- a variable of a monomial is the first one or one of the others
pub first_or_other : (q : ℕ × ℕ) (m : List (ℕ × ℕ)) (v : ℕ) → 0 < exponent (q ∷ m) v → (q.0 ≡ v) ⊎ (0 < exponent m v)
first_or_other q m v h = each (eqb_tells q.0 v)
  where
    each : ((q.0 == v) ≡ true) × (q.0 ≡ v) ⊎ ((q.0 == v) ≡ false) × (q.0 ≢ v) → (q.0 ≡ v) ⊎ (0 < exponent m v)
    each (inl x) = inl x.1
    each (inr x) = inr (omega (arith, h, ap {B = ℕ} (λ b. if b then q.1 else exponent m v) x.0))

-- a variable of a polynomial is one of the first term or of the others
pub term_or_later : (v : ℕ) (t : Term) (ts : List Term) → 0 < degree_in v (t ∷ ts) → (0 < exponent t.monomial v) ⊎ (0 < degree_in v ts)
term_or_later v t ts h = each (exponent t.monomial v) refl
  where
    each : (n : ℕ) → n ≡ exponent t.monomial v → (0 < exponent t.monomial v) ⊎ (0 < degree_in v ts)
    each zero e = inr (omega (arith, e, h))
    each (suc n) e = inl (omega (arith, e))

-- one more term is looked at
pub next_some : (v bits more : ℕ) (left : List Term) (t : Term) (rest : List Term) → left ≡ t ∷ rest → HasBits more t.monomial → HasBit bits v ⊎ (0 < degree_in v left) → HasBit (bit_or bits more) v ⊎ (0 < degree_in v rest)
next_some v bits more left t rest e h (inl b) = inl (bit_left bits more v b)
next_some v bits more left t rest e h (inr l) = each (term_or_later v t rest (subst (λ ts. 0 < degree_in v ts) e l))
  where
    each : (0 < exponent t.monomial v) ⊎ (0 < degree_in v rest) → HasBit (bit_or bits more) v ⊎ (0 < degree_in v rest)
    each (inl k) = inl (bit_right bits more v (h v k))
    each (inr k) = inr k

pub next_each : (v bits more : ℕ) (left : List Term) (t : Term) (rest : List Term) → left ≡ t ∷ rest → HasBits more t.monomial → HasBit bits v × IsDividedBy v left → HasBit (bit_and bits more) v × IsDividedBy v rest
next_each v bits more left t rest e h b =
    let divided : IsDividedBy v (t ∷ rest) = subst (IsDividedBy v) e b.1 in
    (bit_of_both bits more v b.0 (h v divided.0), divided.1)

-- one more power is looked at
pub next_power : (v bits : ℕ) (left : List (ℕ × ℕ)) (q : ℕ × ℕ) (rest : List (ℕ × ℕ)) → left ≡ q ∷ rest → HasBit bits v ⊎ (0 < exponent left v) → HasBit (bit_or bits (1 * 2 ^ (q.0 % 64) % 2 ^ 64)) v ⊎ (0 < exponent rest v)
next_power v bits left q rest e (inl b) = inl (bit_left bits (1 * 2 ^ (q.0 % 64) % 2 ^ 64) v b)
next_power v bits left q rest e (inr l) = each (first_or_other q rest v (subst (λ m. 0 < exponent m v) e l))
  where
    each : (q.0 ≡ v) ⊎ (0 < exponent rest v) → HasBit (bit_or bits (1 * 2 ^ (q.0 % 64) % 2 ^ 64)) v ⊎ (0 < exponent rest v)
    each (inl k) = inl (subst (HasBit (bit_or bits (1 * 2 ^ (q.0 % 64) % 2 ^ 64))) k (bit_at_set_same w64 bits (q.0 % 64) (omega arith)))
    each (inr k) = inr k

pub all_bits : (v : ℕ) → HasBit 18446744073709551615 v
all_bits v = bit_at_ones 64 (v % 64) (omega arith)

-- a set without bits has no variable
pub no_bit : (bits v : ℕ) → bits ≡ 0 → HasBit bits v → ⊥
no_bit bits v z h =
    let one : bit_at 0 (v % 64) ≡ 1 = subst (λ b. bit_at b (v % 64) ≡ 1) z h in
    let none = bit_at-zero (v % 64) in
    omega (arith, one, none)
