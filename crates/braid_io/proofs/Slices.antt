-- What is read from the front of a list.
use Rattle.std.specs.Prelude.{◌≡◌, ◌≤◌, ℕ, ◌+◌, List, ◌++◌, take, drop, length, []}
use Rattle.std.proofs.Common.{sym, ◌∙◌, ap, arith, length-drop}
use Rattle.std.proofs.lemmas.List.{take-append-drop}
use Rattle.std.proofs.lemmas.Grind.{common_steps}
use Rattle.std.proofs.Math.ListN.{drop_of_length-le}
use Rattle.std.proofs.Math.Seq.{take-append_seam}

pub front_read : (s n : ℕ) (bytes into new : List ℕ) → new ≡ take n (drop s bytes) → n ≤ length (drop s bytes) → drop s bytes ≡ take n (new ++ drop n into) ++ drop (s + n) bytes
front_read s n bytes into new e h =
    let l : length new ≡ n = ap length e ∙ grind (arith, common_steps) in
    let t : take n (new ++ drop n into) ≡ new = ap (λ k. take k (new ++ drop n into)) (sym l) ∙ take-append_seam new (drop n into) in
    rw (t, e) (grind (arith, common_steps, take-append-drop n (drop s bytes)))

pub none_left : (s n : ℕ) (bytes : List ℕ) → length (drop s bytes) ≡ 0 → drop (s + n) bytes ≡ []
none_left s n bytes h = let e = length-drop s bytes in drop_of_length-le bytes (omega arith)
