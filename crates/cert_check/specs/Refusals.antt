-- Why an entry may not come next.
use Rattle.std.specs.Prelude.{◌≡◌, ◌≢◌, ◌≤◌, ℕ, List, ◌∷◌, ◌++◌, length, reverse}
use Rattle.sparse_poly.specs.declared.Term.{Term}
use Rattle.derive_lines.specs.declared.parts.Decision.{Decision}
use Rattle.derive_lines.specs.declared.parts.Line.{Line as DerivationLine}
use Rattle.derive_lines.specs.declared.parts.Item.{Item}
use Rattle.refute_store.specs.Live.{IsWithin, IsPattern}
use Rattle.refute_cert.specs.Refutations.{IsCertStop}
use Rattle.refute_cert.specs.declared.CertStop.TheVariants.{Line as bad_line, End as bad_end}
use Rattle.leaf_cert.specs.Parts.{LeafParts}
use Rattle.leaf_cert.specs.Leaves.{IsLeafStop}
use Rattle.leaf_cert.specs.declared.leaf.LeafStop.{LeafStop}
use Rattle.leaf_cert.specs.declared.leaf.LeafStop.TheVariants.{Line as leaf_line, Equation as leaf_equation, Lost as leaf_lost, End as leaf_end}
use Rattle.leaf_cert.specs.declared.certificate.RawEntry.{RawEntry}
use Rattle.leaf_cert.specs.declared.certificate.RawEntry.TheVariants.{Split, Post, Close, Publish}
use Rattle.case_history.specs.History.{decisions_of, patterns, IsPending}
use Rattle.case_history.specs.Replay.{Replays}
use Rattle.cert_check.specs.declared.answers.Part.{Part}
use Rattle.cert_check.specs.declared.answers.Part.TheVariants.{Split as split_part, Pattern, Close as close_part, Leaf}
use Rattle.cert_check.specs.declared.answers.RefuseCause.{RefuseCause}
use Rattle.cert_check.specs.declared.answers.RefuseCause.TheVariants.{NotPending, NotStored, NotWithin, Decisions, Line, Equation, Lost, End}
use Rattle.cert_check.specs.declared.answers.AcceptStop.{AcceptStop}
use Rattle.cert_check.specs.declared.answers.AcceptStop.TheVariants.{Refused, OutOfMemory}

-- why a split may not come
abbrev pub IsSplitCause : List RawEntry → ℕ → RefuseCause → Type 0
IsSplitCause h n NotPending = IsPending h n → ⊥
IsSplitCause h n _ = ⊥

-- why a refutation is not good
abbrev pub IsPatternCause : List (List Term) → List Decision → List DerivationLine → Item → RefuseCause → Type 0
IsPatternCause root ds ls end (Line k cause) = IsCertStop root ds ls end (bad_line k cause)
IsPatternCause root ds ls end End = IsCertStop root ds ls end bad_end
IsPatternCause root ds ls end _ = ⊥

-- case n is pending, and pattern k is there but not within its decisions
pub record IsNotWithin (h : List RawEntry) (n k : ℕ) : Type 0 where
  pub pending : IsPending h n
  pub pattern : List Decision
  pub is : IsPattern (patterns h) k pattern
  pub not_within : IsWithin pattern (decisions_of h n) → ⊥

-- why a close may not come
abbrev pub IsCloseCause : List RawEntry → ℕ → ℕ → RefuseCause → Type 0
IsCloseCause h n k NotPending = IsPending h n → ⊥
IsCloseCause h n k NotStored = IsPending h n × (length (patterns h) ≤ k)
IsCloseCause h n k NotWithin = IsNotWithin h n k
IsCloseCause h n k _ = ⊥

-- case n is pending, and the leaf has its decisions but is not good
pub record IsBadLeaf (root : List (List Term)) (h : List RawEntry) (n : ℕ) (leaf : LeafParts) (stop : LeafStop) : Type 0 where
  pub pending : IsPending h n
  pub same : leaf.decisions ≡ decisions_of h n
  pub bad : IsLeafStop root leaf.decisions leaf.lines leaf.equations leaf.end stop

-- why a leaf may not come
abbrev pub IsLeafCause : List (List Term) → List RawEntry → ℕ → LeafParts → RefuseCause → Type 0
IsLeafCause root h n leaf NotPending = IsPending h n → ⊥
IsLeafCause root h n leaf Decisions = IsPending h n × (leaf.decisions ≢ decisions_of h n)
IsLeafCause root h n leaf (Line k cause) = IsBadLeaf root h n leaf (leaf_line k cause)
IsLeafCause root h n leaf (Equation i) = IsBadLeaf root h n leaf (leaf_equation i)
IsLeafCause root h n leaf (Lost item) = IsBadLeaf root h n leaf (leaf_lost item)
IsLeafCause root h n leaf End = IsBadLeaf root h n leaf leaf_end
IsLeafCause root h n leaf _ = ⊥

-- an entry that may not come after a history: its part, its number and its first cause
abbrev pub IsRefusal : List (List Term) → List RawEntry → RawEntry → Part → ℕ → RefuseCause → Type 0
IsRefusal root h (Split n by) part number cause = (part ≡ split_part) × (number ≡ n) × IsSplitCause h n cause
IsRefusal root h (Post ds ls end) part number cause = (part ≡ Pattern) × (number ≡ length (patterns h)) × IsPatternCause root ds ls end cause
IsRefusal root h (Close n k) part number cause = (part ≡ close_part) × (number ≡ n) × IsCloseCause h n k cause
IsRefusal root h (Publish n ds ls es end) part number cause = (part ≡ Leaf) × (number ≡ n) × IsLeafCause root h n (record { decisions = ds; lines = ls; equations = es; end = end }) cause

-- the same, or no memory was left
abbrev pub IsEntryStop : List (List Term) → List RawEntry → RawEntry → AcceptStop → Type 0
IsEntryStop root h e (Refused part number cause) = IsRefusal root h e part number cause
IsEntryStop root h e OutOfMemory = Unit {0}

-- an entry is refused: those before it replay, and it may not come after them
pub record IsEntryRefused (root : List (List Term)) (entries : List RawEntry) (part : Part) (number : ℕ) (cause : RefuseCause) : Type 0 where
  pub before : List RawEntry
  pub entry : RawEntry
  pub after : List RawEntry
  pub are : entries ≡ before ++ entry ∷ after
  pub replays : Replays root (reverse before)
  pub refused : IsRefusal root (reverse before) entry part number cause

-- the same, or no memory was left
abbrev pub IsReplayStop : List (List Term) → List RawEntry → AcceptStop → Type 0
IsReplayStop root entries (Refused part number cause) = IsEntryRefused root entries part number cause
IsReplayStop root entries OutOfMemory = Unit {0}
