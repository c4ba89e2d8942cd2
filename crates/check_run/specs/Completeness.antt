-- What a check answers where nothing fails.
use Rattle.std.specs.Prelude.{◌≡◌, ◌≢◌, ◌<◌, ◌≤◌, ◌⊎◌, ℕ, List, length}
use Rattle.braid_io.specs.Causes.{Rose}
use Rattle.leaf_cert.specs.declared.certificate.Certificate.{Certificate}
use Rattle.ring_file.specs.Problems.{Stated}
use Rattle.root_system.specs.Forms.{RootEquations}
use Rattle.root_input.specs.Inputs.{HasRoot}
use Rattle.root_input.specs.Streams.{Stream, TellsAll, max_problem_bytes}
use Rattle.case_history.specs.Replay.{Accepted as IsAccepted}
use Rattle.cert_check.specs.Accepting.{IsRefused}
use Rattle.cert_check.specs.declared.answers.Part.{Part}
use Rattle.cert_check.specs.declared.answers.RefuseCause.{RefuseCause}
use Rattle.cert_text.specs.Text.{IsText}
use Rattle.cert_read.specs.Faults.{IsCertFault}
use Rattle.cert_read.specs.declared.reader.CertFault.{CertFault}
use Rattle.cert_read.specs.declared.reader.CertFault.TheVariants.{OutOfMemory as no_text_memory}
use Rattle.check_run.specs.Statuses.{verdict_status}
use Rattle.check_run.specs.Verdicts.{AcceptsWith, IsVerdict, HasNoVerdict}
use Rattle.check_run.specs.Inputs.{max_certificate_bytes}
use Rattle.check_run.specs.declared.status.Which.TheVariants as which
use Rattle.check_run.specs.declared.status.Verdict.{Verdict}
use Rattle.check_run.specs.declared.status.CheckStatus.{CheckStatus}
use Rattle.check_run.specs.declared.status.CheckStatus.TheVariants.{Accepted, Migrated, TooLong, Certificate as fault_of, Refused, OutOfMemory}

-- both sources told their bytes, and no read and no write failed
pub record GoesWell (problem certificate sink : Stream) (problem_bytes certificate_bytes : List ℕ) : Type 0 where
  pub tells_problem : TellsAll problem problem_bytes
  pub tells_certificate : TellsAll certificate certificate_bytes
  pub quiet : ¬ Rose sink.faults_before sink.faults_after

-- neither input is too long
pub record AreShort (problem certificate : List ℕ) : Type 0 where
  pub problem_is : length problem ≤ max_problem_bytes
  pub certificate_is : length certificate ≤ max_certificate_bytes

-- What these bytes are answered where nothing fails and memory can be had.
pub data IsAnswer (problem certificate : List ℕ) : CheckStatus → Type 0 where
  -- the problem is too long
  long_problem : max_problem_bytes < length problem → IsAnswer problem certificate (TooLong which.Problem)
  -- it is not, and the certificate is
  long_certificate : length problem ≤ max_problem_bytes → max_certificate_bytes < length certificate → IsAnswer problem certificate (TooLong which.Certificate)
  -- neither is, and there is no verdict on them
  without_verdict : (status : CheckStatus) → AreShort problem certificate → HasNoVerdict problem certificate status → status ≢ OutOfMemory → IsAnswer problem certificate status
  -- there is one
  with_verdict : (verdict : Verdict) → AreShort problem certificate → IsVerdict problem certificate verdict → IsAnswer problem certificate (verdict_status verdict)

-- the bytes, which are not too long, state a problem with this root and are the text of this certificate
pub record CanBeChecked (problem certificate : List ℕ) (root : RootEquations) (checked : Certificate) : Type 0 where
  pub short : AreShort problem certificate
  pub stated : Stated
  pub has_root : HasRoot problem stated root
  pub is_text : IsText certificate checked

-- the certificate is accepted, and the status says so, with its leaves
pub record SaysAccepted (root : RootEquations) (checked : Certificate) (status : CheckStatus) : Type 0 where
  pub leaves : ℕ
  pub opens : ℕ
  pub accepts : AcceptsWith root checked leaves opens
  pub is : status ≡ Accepted leaves opens

-- it is not, and the status says the first part that fails, and its first cause
pub record SaysRefused (root : RootEquations) (checked : Certificate) (status : CheckStatus) : Type 0 where
  pub part : Part
  pub number : ℕ
  pub cause : RefuseCause
  pub not_accepted : ¬ IsAccepted root.unknowns root.equations checked
  pub refused : IsRefused root checked part number cause
  pub is : status ≡ Refused part number cause

-- the status says whether the certificate is accepted, or memory could not be had
abbrev pub IsVerdictOr : RootEquations → Certificate → CheckStatus → Type 0
IsVerdictOr root checked status = SaysAccepted root checked status ⊎ SaysRefused root checked status ⊎ (status ≡ OutOfMemory)

-- the certificate's source told its bytes, and no read of it and no write failed
pub record MigratesWell (certificate sink : Stream) (bytes : List ℕ) : Type 0 where
  pub tells : TellsAll certificate bytes
  pub quiet : ¬ Rose sink.faults_before sink.faults_after

-- What a certificate's bytes are answered in a migration, where nothing fails and memory can be had.
pub data IsMigrationAnswer (bytes : List ℕ) : CheckStatus → Type 0 where
  -- they are too long
  too_long : max_certificate_bytes < length bytes → IsMigrationAnswer bytes (TooLong which.Certificate)
  -- they are not, and are not the text of a certificate
  faulty : (fault : CertFault) → length bytes ≤ max_certificate_bytes → IsCertFault bytes fault → fault ≢ no_text_memory → IsMigrationAnswer bytes (fault_of fault)
  -- they are
  migrates : (read : Certificate) → length bytes ≤ max_certificate_bytes → IsText bytes read → IsMigrationAnswer bytes (Migrated (length read.entries))
