-- Sums of shares over two lists.
use Rattle.std.specs.Prelude.{◌≡◌, ℕ, ◌+◌, ℤ, ◌+ℤ◌, List, [], ◌∷◌, ◌++◌}
use Rattle.std.proofs.Common.{arith, sym}
use Rattle.std.proofs.lemmas.Int.{ints}
use Rattle.sparse_poly.specs.declared.entry.Share.{Share}
use Rattle.sparse_poly.specs.Standing.{ssum, sweight}
use Rattle.sparse_poly.proofs.Evaluation.{zero_plus}

-- sums over a list and one more after it
pub ssum-append : (m : List (ℕ × ℕ)) (ts us : List Share) → ssum (ts ++ us) m ≡ ssum ts m +ℤ ssum us m
ssum-append m [] us = sym (zero_plus _)
ssum-append m (t ∷ ts) us = let rest = ssum-append m ts us in plus_more _ _ _ _ rest
  where
    plus_more : (a b c d : ℤ) → b ≡ c +ℤ d → a +ℤ b ≡ (a +ℤ c) +ℤ d
    plus_more a b c d e = omega (arith, ints)

pub sweight-append : (m : List (ℕ × ℕ)) (ts us : List Share) → sweight (ts ++ us) m ≡ sweight ts m + sweight us m
sweight-append m [] us = omega arith
sweight-append m (t ∷ ts) us = let rest = sweight-append m ts us in omega arith
