-- What the check of a certificate answers.
use Rattle.std.specs.Prelude.{◌≡◌, ◌≢◌, ◌⊎◌, ℕ, List, length, reverse}
use Rattle.sparse_poly.specs.declared.Term.{Term}
use Rattle.leaf_cert.specs.declared.certificate.RawEntry.{RawEntry}
use Rattle.leaf_cert.specs.declared.certificate.Certificate.{Certificate}
use Rattle.case_history.specs.History.{IsLeastPending}
use Rattle.case_history.specs.Replay.{Replays}
use Rattle.case_history.specs.Counts.{leaf_count, open_count}
use Rattle.root_system.specs.Forms.{RootEquations}
use Rattle.cert_check.specs.declared.answers.Part.{Part}
use Rattle.cert_check.specs.declared.answers.Part.TheVariants.{Header, Whole}
use Rattle.cert_check.specs.declared.answers.RefuseCause.{RefuseCause}
use Rattle.cert_check.specs.declared.answers.RefuseCause.TheVariants.{Unknowns, Equations, Pending}
use Rattle.cert_check.specs.declared.answers.AcceptStop.{AcceptStop}
use Rattle.cert_check.specs.declared.answers.AcceptStop.TheVariants.{Refused, OutOfMemory}
use Rattle.cert_check.specs.declared.answers.Counts.{Counts}
use Rattle.cert_check.specs.Refusals.{IsEntryRefused}

-- the numbers of leaves and of open leaves
pub record AreCounts (c : Certificate) (counts : Counts) : Type 0 where
  pub leaves_are : counts.leaves ≡ leaf_count c.entries
  pub opens_are : counts.opens ≡ open_count c.entries

-- the head has the numbers of the root
pub record HasHeadOf (root : RootEquations) (c : Certificate) : Type 0 where
  pub unknowns_are : c.unknowns ≡ root.unknowns
  pub equations_are : c.equations ≡ length root.equations

-- why a head is not that of the root
abbrev pub IsHeadCause : RootEquations → Certificate → RefuseCause → Type 0
IsHeadCause root c Unknowns = c.unknowns ≢ root.unknowns
IsHeadCause root c Equations = (c.unknowns ≡ root.unknowns) × (c.equations ≢ length root.equations)
IsHeadCause root c _ = ⊥

-- the head is refused
pub record IsHeadRefused (root : RootEquations) (c : Certificate) (part : Part) (number : ℕ) (cause : RefuseCause) : Type 0 where
  pub part_is : part ≡ Header
  pub number_is : number ≡ 0
  pub cause_is : IsHeadCause root c cause

-- all entries replay, and a case is pending after the last one
pub record IsWholeRefused (root : List (List Term)) (entries : List RawEntry) (part : Part) (number : ℕ) (cause : RefuseCause) : Type 0 where
  pub part_is : part ≡ Whole
  pub cause_is : cause ≡ Pending
  pub replays : Replays root (reverse entries)
  pub pending : IsLeastPending (reverse entries) number

-- the first part that fails: the head, or else an entry, or else the whole
abbrev pub IsRefused : RootEquations → Certificate → Part → ℕ → RefuseCause → Type 0
IsRefused root c part number cause = IsHeadRefused root c part number cause ⊎ (HasHeadOf root c × (IsEntryRefused root.equations c.entries part number cause ⊎ IsWholeRefused root.equations c.entries part number cause))

-- why a certificate is not accepted
abbrev pub IsAcceptStop : RootEquations → Certificate → AcceptStop → Type 0
IsAcceptStop root c (Refused part number cause) = IsRefused root c part number cause
IsAcceptStop root c OutOfMemory = Unit {0}
