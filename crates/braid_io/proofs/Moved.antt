-- What several reads took, and what several writes appended.
use Rattle.std.specs.Prelude.{◌≡◌, ◌≤◌, ℕ, ◌+◌, List, ◌++◌, take, drop, length, Option, Some, None}
use Rattle.std.proofs.Common.{sym, ◌∙◌, ap, append_assoc, length-append, arith}
use Rattle.std.proofs.Math.Seq.{take-add}
use Rattle.std.specs.Io.KnownBytes.{Consumes, Appends}
use Rattle.braid_io.specs.Causes.{TookUpTo}

pub Consumes-trans : (a b c : Option (List ℕ)) (xs ys : List ℕ) → Consumes a b xs → Consumes b c ys → Consumes a c (xs ++ ys)
Consumes-trans None b c xs ys h k = tt
Consumes-trans (Some l) None c xs ys h k = absurd h
Consumes-trans (Some l) (Some m) None xs ys h k = absurd k
Consumes-trans (Some l) (Some m) (Some n) xs ys h k = h ∙ ap (λ z. xs ++ z) k ∙ sym (append_assoc xs ys n)

pub Appends-trans : (a b c : Option (List ℕ)) (xs ys : List ℕ) → Appends a b xs → Appends b c ys → Appends a c (xs ++ ys)
Appends-trans None b c xs ys h k = tt
Appends-trans (Some l) None c xs ys h k = absurd h
Appends-trans (Some l) (Some m) None xs ys h k = absurd k
Appends-trans (Some l) (Some m) (Some n) xs ys h k = k ∙ ap (λ z. z ++ ys) h ∙ append_assoc l xs ys

pub take_both : (i j : ℕ) (xs : List ℕ) → take i xs ++ take j (drop i xs) ≡ take (i + j) xs
take_both i j xs = sym (take-add i j xs)

-- some bytes and then at most m more are at most n bytes
pub TookUpTo-after : (a b c : Option (List ℕ)) (xs : List ℕ) (m n : ℕ) → Consumes a b xs → TookUpTo b c m → length xs + m ≤ n → TookUpTo a c n
TookUpTo-after a b c xs m n h t k =
    (xs ++ t.0, Consumes-trans a b c xs t.0 h t.1, (let e : length t.0 ≤ m = t.2 in rw length-append (omega arith)))
