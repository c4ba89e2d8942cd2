-- The first entry that is refused.
use Rattle.std.specs.Prelude.{◌≡◌, ◌<◌, ℕ, suc, List, ◌∷◌, ◌++◌, length, take, drop, reverse, get_or}
use Rattle.std.proofs.Common.{sym, ◌∙◌, ap}
use Rattle.std.proofs.Math.Seq.{drop-cons}
use Rattle.std.proofs.lemmas.List.{take-append-drop}
use Rattle.sparse_poly.specs.declared.Term.{Term}
use Rattle.leaf_cert.specs.declared.certificate.RawEntry.{RawEntry}
use Rattle.case_history.specs.Replay.{Replays}
use Rattle.cert_check.specs.declared.answers.AcceptStop.{AcceptStop}
use Rattle.cert_check.specs.declared.answers.AcceptStop.TheVariants.{Refused, OutOfMemory}
use Rattle.cert_check.specs.Refusals.{IsEntryStop, IsReplayStop}

cut_at : (entries : List RawEntry) (i : ℕ) (x : RawEntry) → i < length entries → x ≡ get_or entries i x → entries ≡ take i entries ++ x ∷ drop (suc i) entries
cut_at entries i x lt is = sym (take-append-drop i entries) ∙ ap (λ (l : List RawEntry). take i entries ++ l) (drop-cons entries i x lt ∙ ap (λ (e : RawEntry). e ∷ drop (suc i) entries) (sym is))

-- the entry that may not come is the first that is refused
pub entry_stop : (root : List (List Term)) (entries : List RawEntry) (i : ℕ) (x : RawEntry) (s : AcceptStop) → i < length entries → x ≡ get_or entries i x → Replays root (reverse (take i entries)) → IsEntryStop root (reverse (take i entries)) x s → IsReplayStop root entries s
entry_stop root entries i x (Refused p n c) lt is r s = record { before = take i entries; entry = x; after = drop (suc i) entries; are = cut_at entries i x lt is; replays = r; refused = s }
entry_stop root entries i x OutOfMemory lt is r s = tt
