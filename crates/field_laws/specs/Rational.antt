-- The rational numbers as reduced pairs of a numerator and a positive denominator.
use Rattle.std.specs.Prelude.{ℕ, zero, suc, ◌*◌, ◌/◌, ◌%◌, Bool, ◌&&◌, ◌==◌, nat_lt, ℤ, pos, negsuc, ◌+ℤ◌, ◌*ℤ◌, neg_ℤ, nat_abs}
use Rattle.field_laws.specs.Field.{Field}

-- the greatest common divisor, in at most k steps of Euclid
abbrev pub gcd_within : ℕ → ℕ → ℕ → ℕ
gcd_within zero a b = a
gcd_within (suc k) a zero = a
gcd_within (suc k) a (suc b) = gcd_within k (suc b) (a % suc b)

abbrev pub gcd : ℕ → ℕ → ℕ
gcd a b = gcd_within b a b

-- n / g, where g divides n
abbrev pub part : ℤ → ℕ → ℤ
part (pos n) g = pos (n / g)
part (negsuc n) g = neg_ℤ (pos (suc n / g))

-- n / d in lowest terms
unfoldable pub reduced : ℤ → ℕ → ℤ × ℕ
reduced n d = let g = gcd (nat_abs n) d in (part n g, d / g)

-- a pair in lowest terms, with a positive denominator
unfoldable pub is_reduced : ℤ × ℕ → Bool
is_reduced q = nat_lt 0 q.1 && (gcd (nat_abs q.0) q.1 == 1)

unfoldable pub rational_plus : ℤ × ℕ → ℤ × ℕ → ℤ × ℕ
rational_plus p q = reduced ((p.0 *ℤ pos q.1) +ℤ (q.0 *ℤ pos p.1)) (p.1 * q.1)

unfoldable pub rational_minus : ℤ × ℕ → ℤ × ℕ
rational_minus p = (neg_ℤ p.0, p.1)

unfoldable pub rational_times : ℤ × ℕ → ℤ × ℕ → ℤ × ℕ
rational_times p q = reduced (p.0 *ℤ q.0) (p.1 * q.1)

-- the numerator and the denominator exchanged, with the sign kept above
unfoldable pub rational_inverse : ℤ × ℕ → ℤ × ℕ
rational_inverse (pos n, d) = (pos d, n)
rational_inverse (negsuc n, d) = (neg_ℤ (pos d), suc n)

abbrev pub rationals : Field (ℤ × ℕ)
rationals = record { is_element = is_reduced; zero = (pos 0, 1); one = (pos 1, 1); plus = rational_plus; minus = rational_minus; times = rational_times; inverse = rational_inverse }
