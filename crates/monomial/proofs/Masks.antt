-- The highest bits of the lanes of a word.
use Rattle.std.specs.Prelude.{◌≡◌, ◌<◌, ◌≤◌, ℕ, zero, suc, ◌+◌, ◌*◌, ◌/◌, ◌%◌, ◌^◌, min, IsTrue, refl}
use Rattle.std.proofs.Common.{arith, sym, ◌∙◌, ap, bit_and, nat_eq}
use Rattle.std.proofs.lemmas.Bool.Decides.{nat_tests}
use Rattle.std.specs.Int.{bit_at}
use Rattle.std.proofs.lemmas.Nat.{shr-shr}
use Rattle.std.proofs.lemmas.Nat.Bits.{bit_at_and, bit_at-zero}
use Rattle.monomial.specs.Layouts.{lane}

-- a number whose bit 15 is 0
low_half : (x : ℕ) → x / 32768 % 2 ≡ 0 → x % 65536 ≤ 32767
low_half x e = omega arith

-- the bits 15, 31, .. of the mask
high_bit : (n : ℕ) → n < 8 → bit_at 170143779648513184874767057851898691584 (16 * n + 15) ≡ 1
high_bit zero h = refl
high_bit (suc zero) h = refl
high_bit (suc (suc zero)) h = refl
high_bit (suc (suc (suc zero))) h = refl
high_bit (suc (suc (suc (suc zero)))) h = refl
high_bit (suc (suc (suc (suc (suc zero))))) h = refl
high_bit (suc (suc (suc (suc (suc (suc zero)))))) h = refl
high_bit (suc (suc (suc (suc (suc (suc (suc zero))))))) h = refl
high_bit (suc (suc (suc (suc (suc (suc (suc (suc n)))))))) h = absurd (omega arith)

pub small_lanes : (w : ℕ) → IsTrue (nat_eq (bit_and w 170143779648513184874767057851898691584) 0) → (n : ℕ) → n < 8 → lane w n ≤ 32767
small_lanes w t n h = low_half (w / 2 ^ (16 * n)) (ap (λ k. k % 2) (shr-shr w (16 * n) 15) ∙ none)
  where
    masked : bit_and w 170143779648513184874767057851898691584 ≡ 0
    masked = grind (arith, nat_tests)

    least : (a : ℕ) → min a 1 ≡ 0 → a ≡ 0
    least a e = omega arith

    none : bit_at w (16 * n + 15) ≡ 0
    none = least _ (ap (min (bit_at w (16 * n + 15))) (sym (high_bit n h)) ∙ sym (bit_at_and w 170143779648513184874767057851898691584 (16 * n + 15)) ∙ ap (λ k. bit_at k (16 * n + 15)) masked ∙ bit_at-zero (16 * n + 15))
