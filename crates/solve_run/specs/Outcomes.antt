-- How a run ends: by the first of its stages that refuses (the words, the source, the problem, the root, the search, the writing), or with a certificate.
use Rattle.std.specs.Prelude.{◌≡◌, ◌<◌, ℕ, Bool, false, if◌then◌else◌, Option, List}
use Rattle.std.specs.Io.KnownBytes.{Appends}
use Rattle.field_laws.specs.Field.{Field, AllElements}
use Rattle.braid_io.specs.Causes.{Rose, WrotePart}
use Rattle.leaf_cert.specs.Leaves.{Meets}
use Rattle.leaf_cert.specs.declared.certificate.Certificate.{Certificate}
use Rattle.leaf_cert.specs.declared.certificate.RawEntry.{RawEntry}
use Rattle.ring_file.specs.Problems.{Stated}
use Rattle.root_system.specs.Forms.{RootEquations}
use Rattle.root_system.specs.Solution.{Solution}
use Rattle.case_history.specs.History.{IsComplete}
use Rattle.case_history.specs.Replay.{Accepted}
use Rattle.case_history.specs.JustOne.{MeetsJustOneLeaf}
use Rattle.case_history.specs.Counts.{leaf_count, open_count}
use Rattle.legal_history.specs.Legal.{IsLegal, IsSerial}
use Rattle.legal_history.specs.Tree.{AreTreeLeaves}
use Rattle.case_ledger.specs.Board.{IsCertificate}
use Rattle.cert_text.specs.declared.version.Version.TheVariants.{Two}
use Rattle.cert_text.specs.Sentences.{text_in}
use Rattle.cert_text.specs.Text.{Fits}
use Rattle.cert_summary.specs.Summary.{summary_text}
use Rattle.root_input.specs.Streams.{Stream}
use Rattle.root_input.specs.declared.fault.InputFault.{InputFault}
use Rattle.run_words.specs.Words.{IsSettings, IsUsageFault}
use Rattle.run_words.specs.declared.settings.Made.{Made}
use Rattle.run_words.specs.declared.settings.Settings.{Settings}
use Rattle.run_words.specs.declared.settings.UsageKind.{UsageKind}
use Rattle.solve_run.specs.Problems.{GivesRoot, GivesNoRoot}
use Rattle.solve_run.specs.Statuses.{input_status}
use Rattle.solve_run.specs.declared.status.Status.{Status}
use Rattle.solve_run.specs.declared.status.Status.TheVariants.{Done, Open, Usage, WriteFault, OutOfMemory}

-- the status says why the source, or the ring that the words make, gives no root, or that memory could not be had
pub record Refuses (source : Stream) (made : Option Made) (status : Status) : Type 0 where
  pub fault : InputFault
  pub is_fault : GivesNoRoot source made fault
  pub becomes : status ≡ input_status fault

-- the certificate of the whole search of a root by so many workers; where there is one, the least pending case was always settled next
pub record IsSearched (root : RootEquations) (budget workers : ℕ) (history : List RawEntry) (certificate : Certificate) : Type 0 where
  pub has_parts : IsCertificate (record { root = root; budget = budget; history = history }) certificate
  pub legal : IsLegal root.equations budget history
  pub serial : workers ≡ 1 → IsSerial root.equations budget history
  pub complete : IsComplete history
  pub accepted : Accepted root.unknowns root.equations certificate
  pub tree : AreTreeLeaves root.equations budget history

-- what is written of a certificate: its summary, where that is asked for, or else its text in version 2
abbrev pub output_text : Bool → Certificate → List ℕ
output_text summary certificate = if summary then summary_text certificate else text_in Two certificate

-- What a run with a certificate says in the field: of the settings that the words ask for, the problem and its root, the history of the search and its
-- certificate, with so many leaves, of which so many are open.
pub record Certifies {E : Type 0} (f : Field E) (words : List (List ℕ)) (source : Stream) (IsWritten : List ℕ → Type 0) (leaves opens : ℕ) : Type 0 where
  pub settings : Settings
  pub problem : Stated
  pub root : RootEquations
  pub history : List RawEntry
  pub certificate : Certificate
  pub are_settings : IsSettings words settings
  pub gives : GivesRoot source settings.made problem root
  pub searched : IsSearched root settings.budget settings.workers history certificate
  pub leaves_are : leaves ≡ leaf_count certificate.entries
  pub opens_are : opens ≡ open_count certificate.entries
  pub writes : IsWritten (output_text settings.summary certificate)
  -- without the summary, all numbers of the certificate are in range, so the text is one that can be read
  pub fits : settings.summary ≡ false → Fits certificate
  -- an assignment is a solution of the problem exactly if it meets a leaf, and then it meets just one
  pub covers : (x : List E) → AllElements f x → MeetsJustOneLeaf (Solution f problem x) (Meets f x) certificate.entries

-- The status of a run that wrote all of these entries.
pub data Counts (entries : List RawEntry) : Status → Type 0 where
  -- no leaf is open
  none_open : open_count entries ≡ 0 → Counts entries (Done (leaf_count entries))
  -- some leaf is open
  some_open : 0 < open_count entries → Counts entries (Open (leaf_count entries) (open_count entries))

-- How a run ends.
pub data Ends {E : Type 0} (f : Field E) (words : List (List ℕ)) (source sink : Stream) : Status → Type 0 where
  -- the words give no settings
  by_words : (kind : UsageKind) → IsUsageFault words kind → Ends f words source sink (Usage kind)
  -- they give them, and the source or the ring that they make gives no root
  by_source : (settings : Settings) (status : Status) → IsSettings words settings → Refuses source settings.made status → Ends f words source sink status
  -- the whole text was written, and no leaf is open
  by_leaves : (leaves : ℕ) → Certifies f words source (Appends sink.before sink.after) leaves 0 → Ends f words source sink (Done leaves)
  -- the whole text was written, and some leaf is open
  by_open_leaves : (leaves opens : ℕ) → 0 < opens → Certifies f words source (Appends sink.before sink.after) leaves opens → Ends f words source sink (Open leaves opens)
  -- a write failed, and a proper prefix of the text was written
  by_sink : (leaves opens : ℕ) → Rose sink.faults_before sink.faults_after → Certifies f words source (WrotePart sink.before sink.after) leaves opens → Ends f words source sink WriteFault
  -- memory could not be had
  by_memory : Ends f words source sink OutOfMemory
