-- What a run wrote, and a check that is given it.
use Rattle.std.specs.Prelude.{◌≡◌, ◌≢◌, ℕ, false, Option, None, Some, List, ◌++◌}
use Rattle.ring_file.specs.Problems.{Stated}
use Rattle.root_input.specs.Streams.{Stream, Tells}
use Rattle.cert_read.specs.declared.reader.CertFault.{CertFault}
use Rattle.cert_check.specs.declared.answers.Part.{Part}
use Rattle.cert_check.specs.declared.answers.RefuseCause.{RefuseCause}
use Rattle.run_words.specs.Words.{IsSettings}
use Rattle.run_words.specs.declared.settings.Made.{Made}
use Rattle.run_words.specs.declared.settings.Settings.{Settings}
use Rattle.solve_run.specs.Problems.{IsMadeProblem, IsProblemBy}
use Rattle.solve_run.specs.declared.status.Status.{Status}
use Rattle.solve_run.specs.declared.status.Status.TheVariants.{Done, Open}
use Rattle.check_run.specs.declared.status.CheckStatus.{CheckStatus}
use Rattle.check_run.specs.declared.status.CheckStatus.TheVariants.{Certificate, Refused}

-- The whole text was written, of a certificate with so many leaves, of which so many are open.
pub data WroteAll : Status → ℕ → ℕ → Type 0 where
  done : (leaves : ℕ) → WroteAll (Done leaves) leaves 0
  some_open : (leaves opens : ℕ) → WroteAll (Open leaves opens) leaves opens

-- the bytes state the problem of the run: its source told them, or they state the problem that the words make
abbrev pub IsSameProblem : Option Made → Stream → List ℕ → Type 0
IsSameProblem None source bytes = Tells source bytes
IsSameProblem (Some made) source bytes = (p : Stated) × IsProblemBy None bytes p × IsMadeProblem made p

-- the words of the run did not ask for the summary, its problem is that of these bytes, and it appended this text to its sink
pub record Wrote (words : List (List ℕ)) (source sink : Stream) (problem text : List ℕ) : Type 0 where
  pub settings : Settings
  pub are_settings : IsSettings words settings
  pub no_summary : settings.summary ≡ false
  pub same_problem : IsSameProblem settings.made source problem
  pub earlier : List ℕ
  pub before : sink.before ≡ Some earlier
  pub after : sink.after ≡ Some (earlier ++ text)

-- the sources of the check told the bytes of this problem and this text
pub record IsGiven (problem certificate : Stream) (bytes text : List ℕ) : Type 0 where
  pub tells_problem : Tells problem bytes
  pub tells_text : Tells certificate text

-- the status refuses neither the certificate nor its text
pub record IsNeverRefused (status : CheckStatus) : Type 0 where
  pub read : (fault : CertFault) → status ≢ Certificate fault
  pub not_refused : (part : Part) (number : ℕ) (cause : RefuseCause) → status ≢ Refused part number cause
