-- The entries of a board when one is added.
use Rattle.std.specs.Prelude.{◌≡◌, ◌≤◌, ℕ, List, [], ◌∷◌, ◌++◌, length, reverse, slice_index_or}
use Rattle.std.proofs.Common.{arith, refl, ◌∙◌, ap}
use Rattle.std.proofs.lemmas.List.{reverse-append, length-reverse, length-map, map-append}
use Rattle.std.proofs.lemmas.List.Elements.{All-head, All-tail, All-cons, All-append}
use Rattle.std.proofs.Math.ListN.{get_or-append}
use Rattle.leaf_cert.specs.declared.certificate.RawEntry.{RawEntry}
use Rattle.refute_cert.specs.Parts.{RefutationParts}
use Rattle.legal_history.specs.Legal.{post}
use Rattle.case_ledger.specs.Entries.{no_refutation, entry_of, entries_of, history_of, IsPosted, ArePosted}
use Rattle.case_ledger.specs.declared.entries.Kept.{Kept}
use Rattle.case_ledger.specs.declared.entries.Kept.TheVariants.{Split, Post, Close, Publish}

entry_stays : (stored more : List RefutationParts) (entry : Kept) → IsPosted (length stored) entry → entry_of (stored ++ more) entry ≡ entry_of stored entry
entry_stays stored more (Split m by) posted = refl
entry_stays stored more (Post k) posted = ap post (get_or-append stored more no_refutation k posted)
entry_stays stored more (Close m k) posted = refl
entry_stays stored more (Publish m leaf) posted = refl

-- refutations that are posted later change no entry
pub entries_stay : (stored more : List RefutationParts) (entries : List Kept) → ArePosted (length stored) entries → entries_of (stored ++ more) entries ≡ entries_of stored entries
entries_stay stored more [] posted = refl
entries_stay stored more (entry ∷ entries) posted =
    rw (entry_stays stored more entry (All-head (IsPosted (length stored)) entry entries posted)) (ap (λ (l : List RawEntry). entry_of stored entry ∷ l) (entries_stay stored more entries (All-tail (IsPosted (length stored)) entry entries posted)))

is_posted_more : (n m : ℕ) (entry : Kept) → n ≤ m → IsPosted n entry → IsPosted m entry
is_posted_more n m (Split i by) le posted = tt
is_posted_more n m (Post k) le posted = omega (arith, le, posted)
is_posted_more n m (Close i k) le posted = tt
is_posted_more n m (Publish i leaf) le posted = tt

-- the refutations of posts are of the store
pub posted_more : (n m : ℕ) (entries : List Kept) → n ≤ m → ArePosted n entries → ArePosted m entries
posted_more n m entries le posted = λ k d lt. is_posted_more n m (slice_index_or entries k d) le (posted k d lt)

pub posted_push : (n : ℕ) (entries : List Kept) (entry : Kept) → ArePosted n entries → IsPosted n entry → ArePosted n (entries ++ entry ∷ [])
posted_push n entries entry posted last = All-append (IsPosted n) entries (entry ∷ []) posted (All-cons (IsPosted n) entry [] last (λ k d lt. absurd (omega (arith, lt))))

-- an entry that is pushed is the newest
pub history_push : (stored : List RefutationParts) (entries : List Kept) (entry : Kept) → history_of stored (entries ++ entry ∷ []) ≡ entry_of stored entry ∷ history_of stored entries
history_push stored entries entry = ap reverse (map-append (entry_of stored) entries (entry ∷ [])) ∙ reverse-append (entries_of stored entries) (entry_of stored entry ∷ [])

pub length-history : (stored : List RefutationParts) (entries : List Kept) → length (history_of stored entries) ≡ length entries
length-history stored entries = length-reverse (entries_of stored entries) ∙ length-map entries (entry_of stored)

-- the refutation that is posted last
pub last_stored : (stored : List RefutationParts) (r : RefutationParts) → slice_index_or (stored ++ r ∷ []) (length stored) no_refutation ≡ r
last_stored [] r = refl
last_stored (s ∷ stored) r = last_stored stored r
