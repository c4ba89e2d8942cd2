-- The table of lines, as it grows.
use Rattle.std.specs.Prelude.{◌≡◌, ℕ, ◌+◌, ◌<◌, Bool, true, false, not, if◌then◌else◌, nat_lt, None, Some, List, [], ◌∷◌, ◌++◌, length, flat_map, drop, get_or, refl}
use Rattle.std.specs.List.{position, position_or_len}
use Rattle.std.specs.Option.{unwrap_or}
use Rattle.std.proofs.Common.{sym, ◌∙◌, ap, arith}
use Rattle.std.proofs.lemmas.Bool.Decides.{nat_tests}
use Rattle.std.proofs.lemmas.List.Sums.{prefix_len-le-length}
use Rattle.derive_lines.specs.declared.parts.Line.{Line}
use Rattle.leaf_cert.specs.declared.certificate.RawEntry.{RawEntry}
use Rattle.cert_text.specs.Tables.{stands_in, with_new, entry_lines}
use Rattle.cert_text.proofs.Loops.{item_more}

-- the lines of one list, and then those of another
pub with_new-append : (t ls ks : List Line) → with_new t (ls ++ ks) ≡ with_new (with_new t ls) ks
with_new-append t [] ks = refl
with_new-append t (l ∷ ls) ks = with_new-append (if stands_in t l then t else t ++ l ∷ []) ls ks

-- one entry more
pub entry_tabled : (t new all : List Line) (es : List RawEntry) (i : ℕ) (e : RawEntry) → i < length es → e ≡ get_or es i e → new ≡ with_new t (entry_lines e) → with_new t (flat_map entry_lines (drop i es)) ≡ all → with_new new (flat_map entry_lines (drop (i + 1) es)) ≡ all
entry_tabled t new all es i e l is n h =
    let rest = flat_map entry_lines (drop (i + 1) es) in
    ap (λ x. with_new x rest) n
    ∙ sym (with_new-append t (entry_lines e) rest)
    ∙ ap (λ ys. with_new t (flat_map entry_lines ys)) (sym (item_more es i e l is))
    ∙ h

-- the place of the first that passes, or the length
pub place_or_length : {X : Type 0} (p : X → Bool) (xs : List X) → unwrap_or (position p xs) (length xs) ≡ position_or_len p xs
place_or_length p xs = by (nat_lt (position_or_len p xs) (length xs)) refl
  where
    by : (b : Bool) → nat_lt (position_or_len p xs) (length xs) ≡ b → unwrap_or (position p xs) (length xs) ≡ position_or_len p xs
    by true e = ap (λ b. unwrap_or (if b then Some (position_or_len p xs) else None) (length xs)) e
    by false e = ap (λ b. unwrap_or (if b then Some (position_or_len p xs) else None) (length xs)) e ∙ (let le = prefix_len-le-length (λ x. not (p x)) xs in grind (arith, nat_tests))
