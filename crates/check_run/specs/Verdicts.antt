-- The verdict on the bytes of a problem and of a certificate, and why there is none.
use Rattle.std.specs.Prelude.{◌≡◌, ℕ, List}
use Rattle.leaf_cert.specs.declared.certificate.Certificate.{Certificate}
use Rattle.ring_file.specs.Problems.{Stated}
use Rattle.root_system.specs.Forms.{RootEquations}
use Rattle.root_input.specs.Inputs.{HasRoot, IsRootStop}
use Rattle.root_input.specs.declared.fault.RootStop.{RootStop}
use Rattle.case_history.specs.Replay.{Accepted as IsAccepted}
use Rattle.case_history.specs.Counts.{leaf_count, open_count}
use Rattle.cert_check.specs.Accepting.{IsRefused}
use Rattle.cert_text.specs.Text.{IsText}
use Rattle.cert_read.specs.Faults.{IsCertFault}
use Rattle.cert_read.specs.declared.reader.CertFault.{CertFault}
use Rattle.check_run.specs.Statuses.{root_status, text_status}
use Rattle.check_run.specs.declared.status.Verdict.{Verdict}
use Rattle.check_run.specs.declared.status.Verdict.TheVariants.{Accepted, Refused}
use Rattle.check_run.specs.declared.status.CheckStatus.{CheckStatus}
use Rattle.check_run.specs.declared.status.CheckStatus.TheVariants.{OutOfMemory}

-- the certificate is accepted for the root, with so many leaves, of which so many are open
pub record AcceptsWith (root : RootEquations) (certificate : Certificate) (leaves opens : ℕ) : Type 0 where
  pub accepted : IsAccepted root.unknowns root.equations certificate
  pub leaves_are : leaves ≡ leaf_count certificate.entries
  pub opens_are : opens ≡ open_count certificate.entries

-- the verdict on a certificate for a root: it is accepted, or this part of it is the first that fails, by this cause
abbrev pub IsJudged : RootEquations → Certificate → Verdict → Type 0
IsJudged root certificate (Accepted leaves opens) = AcceptsWith root certificate leaves opens
IsJudged root certificate (Refused part number cause) = IsRefused root certificate part number cause

-- the first bytes state a problem with a root, the second are the text of a certificate, and this is the verdict on it
pub record IsVerdict (problem certificate : List ℕ) (verdict : Verdict) : Type 0 where
  pub stated : Stated
  pub root : RootEquations
  pub checked : Certificate
  pub has_root : HasRoot problem stated root
  pub is_text : IsText certificate checked
  pub judged : IsJudged root checked verdict

-- Why there is no verdict on bytes.
pub data HasNoVerdict (problem certificate : List ℕ) : CheckStatus → Type 0 where
  -- the first bytes have no root
  no_root : (stop : RootStop) → IsRootStop problem stop → HasNoVerdict problem certificate (root_status stop)
  -- they have one, and the second bytes are not the text of a certificate
  no_text : (stated : Stated) (root : RootEquations) (fault : CertFault) → HasRoot problem stated root → IsCertFault certificate fault → HasNoVerdict problem certificate (text_status fault)
  -- memory could not be had
  no_memory : HasNoVerdict problem certificate OutOfMemory
