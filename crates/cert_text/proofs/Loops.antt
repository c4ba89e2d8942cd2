-- A list that is written item by item.
use Rattle.std.specs.Prelude.{◌≡◌, ℕ, zero, suc, ◌+◌, ◌<◌, List, [], ◌∷◌, ◌++◌, length, map, flat_map, drop, get_or}
use Rattle.std.proofs.Common.{sym, ◌∙◌, ap, append_assoc, arith}
use Rattle.derive_lines.specs.declared.parts.Line.{Line}
use Rattle.leaf_cert.specs.declared.certificate.RawEntry.{RawEntry}
use Rattle.cert_text.specs.declared.sentence.Sentence.{Sentence}
use Rattle.cert_text.specs.Fields.{ended}
use Rattle.cert_text.specs.Sentences.{fields, entry_sentences, spelled}
use Rattle.cert_text.proofs.Joined.{spelled-append}

drop_item : {X : Type 0} (xs : List X) (i : ℕ) (x : X) → i < length xs → x ≡ get_or xs i x → drop i xs ≡ x ∷ drop (suc i) xs
drop_item [] i x l e = absurd (omega arith)
drop_item (y ∷ ys) zero x l e = ap (λ z. z ∷ ys) (sym e)
drop_item (y ∷ ys) (suc i) x l e = drop_item ys i x (omega arith) e

next : (i : ℕ) → suc i ≡ i + 1
next i = omega arith

pub item_more : {X : Type 0} (xs : List X) (i : ℕ) (x : X) → i < length xs → x ≡ get_or xs i x → drop i xs ≡ x ∷ drop (i + 1) xs
item_more xs i x l e = drop_item xs i x l e ∙ ap (λ n. x ∷ drop n xs) (next i)

-- one line more
pub line_more : {X : Type 0} (f : X → Sentence) (old new all : List ℕ) (xs : List X) (i : ℕ) (x : X) → i < length xs → x ≡ get_or xs i x → new ≡ old ++ ended (fields (f x)) → old ++ spelled (map f (drop i xs)) ≡ all → new ++ spelled (map f (drop (i + 1) xs)) ≡ all
line_more f old new all xs i x l e n h =
    ap (λ z. z ++ spelled (map f (drop (i + 1) xs))) n
    ∙ append_assoc old (ended (fields (f x))) (spelled (map f (drop (i + 1) xs)))
    ∙ ap (λ ys. old ++ spelled (map f ys)) (sym (item_more xs i x l e))
    ∙ h

-- one entry more, whose lines are said in this way
pub entry_more : (say : Line → Sentence) (old new all : List ℕ) (es : List RawEntry) (i : ℕ) (e : RawEntry) → i < length es → e ≡ get_or es i e → new ≡ old ++ spelled (entry_sentences say e) → old ++ spelled (flat_map (entry_sentences say) (drop i es)) ≡ all → new ++ spelled (flat_map (entry_sentences say) (drop (i + 1) es)) ≡ all
entry_more say old new all es i e l is n h =
    let rest = flat_map (entry_sentences say) (drop (i + 1) es) in
    ap (λ z. z ++ spelled rest) n
    ∙ append_assoc old (spelled (entry_sentences say e)) (spelled rest)
    ∙ ap (λ z. old ++ z) (sym (spelled-append (entry_sentences say e) rest))
    ∙ ap (λ ys. old ++ spelled (flat_map (entry_sentences say) ys)) (sym (item_more es i e l is))
    ∙ h
