-- The states that the reader keeps.
use Rattle.std.specs.Prelude.{◌≡◌, ◌≢◌, ℕ, true, false, ◌==◌, Option, None, Some, List, [], ◌∷◌, length, refl}
use Rattle.std.proofs.Common.{arith}
use Rattle.std.proofs.lemmas.Bool.Decides.{nat_tests}
use Rattle.sparse_poly.specs.declared.Term.{Term}
use Rattle.derive_lines.specs.declared.parts.Decision.{Decision}
use Rattle.derive_lines.specs.declared.parts.Line.{Line}
use Rattle.leaf_cert.specs.declared.ends.LeafEnd.{LeafEnd}
use Rattle.leaf_cert.specs.declared.certificate.RawEntry.{RawEntry}
use Rattle.leaf_cert.specs.declared.certificate.Certificate.{Certificate}
use Rattle.cert_read.specs.declared.machine.Head.{Head}
use Rattle.cert_text.specs.declared.version.Version.{Version}
use Rattle.cert_read.specs.declared.machine.Kept.{Kept}
use Rattle.cert_read.specs.declared.machine.Kept.TheVariants as kept
use Rattle.cert_read.specs.Machine.{Wording, InLeaf, Taken, derive, AtStart, AtUnknowns, AtEquations, AtBudget, AtLines, InTable, Listing, Whole, Wrong}
use Rattle.cert_read.specs.Seen.{seen, seen_wording, seen_used, seen_open}
use Rattle.cert_read.proofs.Finish.{IsWhole}

-- a state that is kept is not `Wrong`
pub seen_live : (k : Kept) → seen k ≢ Wrong
seen_live kept.Start e = cc
seen_live (kept.Unknowns v) e = cc
seen_live (kept.Equations v u) e = cc
seen_live (kept.Budget v u b) e = cc
seen_live (kept.Lines h) e = cc
seen_live (kept.Table h size t) e = cc
seen_live (kept.Listing h w es o) e = cc
seen_live (kept.Whole v c) e = cc

-- and is whole only where it is kept so
pub not_whole : (k : Kept) → ((v : Version) (c : Certificate) → k ≡ kept.Whole v c → ⊥) → IsWhole (seen k) → ⊥
not_whole kept.Start n w = let e : AtStart ≡ Whole w.version w.certificate = w.is in cc
not_whole (kept.Unknowns v) n w = let e : AtUnknowns v ≡ Whole w.version w.certificate = w.is in cc
not_whole (kept.Equations v u) n w = let e : AtEquations v u ≡ Whole w.version w.certificate = w.is in cc
not_whole (kept.Budget v u b) n w = let e : AtBudget v u b ≡ Whole w.version w.certificate = w.is in cc
not_whole (kept.Lines h) n w = let e : AtLines h ≡ Whole w.version w.certificate = w.is in cc
not_whole (kept.Table h size t) n w = let e : InTable h size t ≡ Whole w.version w.certificate = w.is in cc
not_whole (kept.Listing h x es o) n w = let e : Listing h (seen_wording x) (seen_used x) es.items (seen_open o) ≡ Whole w.version w.certificate = w.is in cc
not_whole (kept.Whole v c) n w = n v c refl

pub no_bytes : (xs : List ℕ) → (length xs == 0) ≡ true → xs ≡ []
no_bytes [] h = refl
no_bytes (x ∷ xs) h = absurd (grind (arith, nat_tests))

pub some_bytes : (xs : List ℕ) → (length xs == 0) ≡ false → xs ≢ []
some_bytes [] h e = cc
some_bytes (x ∷ xs) h e = cc

-- behind an equation no line of a derivation comes
pub behind_equation : (h : Head) (w : Wording) (es : List RawEntry) (n : ℕ) (end : LeafEnd) (ds : List Decision) (ls : List Line) (ps : List (List Term)) (o : Option Taken) → (length ps == 0) ≡ false → derive h w es (InLeaf n end ds ls ps) o ≡ Wrong
behind_equation h w es n end ds ls [] o e = absurd (cc)
behind_equation h w es n end ds ls (p ∷ ps) None e = refl
behind_equation h w es n end ds ls (p ∷ ps) (Some x) e = refl
