-- Polynomials at a glance.
use Rattle.std.specs.Prelude.{◌≡◌, ◌<◌, ℕ, List, ◌%◌}
use Rattle.std.specs.Int.{bit_at}
use Rattle.monomial.specs.Monomials.{exponent}
use Rattle.sparse_poly.specs.declared.Term.{Term}
use Rattle.sparse_poly.specs.Reads.{degree_in}
use Rattle.sparse_poly.specs.Clearing.{IsDividedBy}
use Rattle.case_system.specs.declared.outline.Outline.{Outline}

-- a set of variables has a variable's bit
abbrev pub HasBit : ℕ → ℕ → Type 0
HasBit bits v = bit_at bits (v % 64) ≡ 1

-- each variable of a monomial has its bit
abbrev pub HasBits : ℕ → List (ℕ × ℕ) → Type 0
HasBits bits m = (v : ℕ) → 0 < exponent m v → HasBit bits v

-- each variable that occurs has its bit, and so has each that divides
pub record IsOutlineOf (p : List Term) (o : Outline) : Type 0 where
  pub some : (v : ℕ) → 0 < degree_in v p → HasBit o.some v
  pub each : (v : ℕ) → IsDividedBy v p → HasBit o.each v
