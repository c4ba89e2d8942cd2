-- Quotients of words: the word of a quotient is the difference of the words.
use Rattle.std.specs.Prelude.{◌≡◌, ◌<◌, ◌≤◌, ℕ, ◌-◌, ◌+◌, List}
use Rattle.std.proofs.Common.{arith, sym, ◌∙◌, ap}
use Rattle.std.specs.List.{Contains}
use Rattle.monomial.specs.Monomials.{exponent, monomial_times, lowered, Divides, IsPowers}
use Rattle.monomial.specs.Layouts.{word_of, monomial_of, IsWordIn}
use Rattle.monomial.proofs.Exponents.{IsPowers-lowered, exponent-lowered, times-lowered}
use Rattle.monomial.proofs.Words.{word_of-times, monomial_of-word, fits_small, fits_known}

-- the word of a monomial is that of a divisor plus that of the quotient
whole_word : (vs : List ℕ) (m d : List (ℕ × ℕ)) → IsPowers m → IsPowers d → Divides d m → word_of vs m ≡ word_of vs d + word_of vs (lowered m d)
whole_word vs m d h i e =
    ap (word_of vs) (sym (times-lowered m d h i e)) ∙ word_of-times vs d (lowered m d) i (IsPowers-lowered m d h)

pub no_less : (vs : List ℕ) (m d : List (ℕ × ℕ)) (w l : ℕ) → IsPowers m → IsPowers d → IsWordIn vs m w → IsWordIn vs d l → Divides d m → l ≤ w
no_less vs m d w l h i a b e =
    let whole = whole_word vs m d h i e in
    omega (arith, whole, a.value, b.value)

pub monomial_of-less : (vs : List ℕ) (m d : List (ℕ × ℕ)) (w l : ℕ) → IsPowers m → IsPowers d → IsWordIn vs m w → IsWordIn vs d l → Divides d m → monomial_times d (monomial_of vs (w - l)) ≡ m
monomial_of-less vs m d w l h i a b e =
    let whole = whole_word vs m d h i e in
    let less : w - l ≡ word_of vs (lowered m d) = omega (arith, whole, a.value, b.value) in
    let own : monomial_of vs (w - l) ≡ lowered m d = monomial_of-word vs (lowered m d) (w - l) a.layout.falling (IsPowers-lowered m d h) small known less in
    ap (monomial_times d) own ∙ times-lowered m d h i e
  where
    small : (v : ℕ) → exponent (lowered m d) v ≤ 65535
    small v = omega (arith, exponent-lowered m d v h, fits_small vs m v a.fits)

    known : (v : ℕ) → 0 < exponent (lowered m d) v → Contains vs v
    known v l = fits_known vs m v a.fits (omega (arith, exponent-lowered m d v h))
