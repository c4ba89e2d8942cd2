-- How a check ends: by the first of its stages that refuses (the words, the reading of both inputs, the problem, the root, the certificate's text), with a
-- verdict, or with a certificate's text written again.
use Rattle.std.specs.Prelude.{◌≡◌, ◌≢◌, ℕ, true, List, length}
use Rattle.std.specs.Io.KnownBytes.{Appends}
use Rattle.field_laws.specs.Field.{Field, AllElements}
use Rattle.braid_io.specs.Causes.{Rose, WrotePart}
use Rattle.leaf_cert.specs.Leaves.{Meets}
use Rattle.leaf_cert.specs.declared.certificate.Certificate.{Certificate}
use Rattle.ring_file.specs.Problems.{Stated}
use Rattle.root_system.specs.Solution.{Solution}
use Rattle.root_input.specs.Streams.{Stream, ReadsAll, IsUntouched, max_problem_bytes}
use Rattle.case_history.specs.JustOne.{MeetsJustOneLeaf}
use Rattle.check_run.specs.Words.{asks_migration, AsksCheck}
use Rattle.check_run.specs.Statuses.{verdict_status}
use Rattle.check_run.specs.Inputs.{max_certificate_bytes, IsNotRead}
use Rattle.check_run.specs.Migrations.{MigrationEnds}
use Rattle.check_run.specs.Lines.{verdict_line}
use Rattle.check_run.specs.Verdicts.{IsVerdict, HasNoVerdict}
use Rattle.check_run.specs.declared.status.Which.TheVariants as which
use Rattle.check_run.specs.declared.status.Verdict.{Verdict}
use Rattle.check_run.specs.declared.status.Verdict.TheVariants.{Accepted}
use Rattle.check_run.specs.declared.status.CheckStatus.{CheckStatus}
use Rattle.check_run.specs.declared.status.CheckStatus.TheVariants.{Usage, WriteFault, OutOfMemory}

-- in the field an assignment is a solution of the problem exactly if it meets a leaf of the certificate, and then it meets just one
abbrev pub Covers : {E : Type 0} → Field E → Stated → Certificate → Type 0
Covers {E} f stated certificate = (x : List E) → AllElements f x → MeetsJustOneLeaf (Solution f stated x) (Meets f x) certificate.entries

-- What a check with a verdict says in the field: all bytes of both inputs were read, this is the verdict on them, and what is accepted covers the
-- solutions of the problem.
pub record Judges {E : Type 0} (f : Field E) (problem certificate : Stream) (verdict : Verdict) : Type 0 where
  pub problem_bytes : List ℕ
  pub certificate_bytes : List ℕ
  pub reads_problem : ReadsAll max_problem_bytes problem problem_bytes
  pub reads_certificate : ReadsAll max_certificate_bytes certificate certificate_bytes
  pub is_verdict : IsVerdict problem_bytes certificate_bytes verdict
  pub covers : (leaves opens : ℕ) → verdict ≡ Accepted leaves opens → Covers f is_verdict.stated is_verdict.checked

-- Why both inputs get no verdict.
pub data IsUnjudged (problem certificate : Stream) : CheckStatus → Type 0 where
  -- the problem was not read to its end, and then nothing of the certificate was read
  stops_at_problem : (status : CheckStatus) → IsNotRead which.Problem problem status → IsUntouched certificate → IsUnjudged problem certificate status
  -- it was, and the certificate was not
  stops_at_certificate : (bytes : List ℕ) (status : CheckStatus) → ReadsAll max_problem_bytes problem bytes → IsNotRead which.Certificate certificate status
      → IsUnjudged problem certificate status
  -- both were, and there is no verdict on their bytes
  has_no_verdict : (problem_bytes certificate_bytes : List ℕ) (status : CheckStatus) → ReadsAll max_problem_bytes problem problem_bytes
      → ReadsAll max_certificate_bytes certificate certificate_bytes → HasNoVerdict problem_bytes certificate_bytes status → IsUnjudged problem certificate status

-- How a check ends.
pub data CheckEnds {E : Type 0} (f : Field E) (words : List (List ℕ)) (problem certificate sink : Stream) : CheckStatus → Type 0 where
  -- there are not two words
  by_words : length words ≢ 2 → CheckEnds f words problem certificate sink Usage
  -- there are two that ask for a migration, and then the problem is untouched
  by_migration : (status : CheckStatus) → asks_migration words ≡ true → IsUntouched problem → MigrationEnds certificate sink status → CheckEnds f words problem certificate sink status
  -- there are two that ask for a check, and the inputs get no verdict
  by_inputs : (status : CheckStatus) → AsksCheck words → IsUnjudged problem certificate status → CheckEnds f words problem certificate sink status
  -- they get one, and its whole line was written
  by_verdict : (verdict : Verdict) → AsksCheck words → Judges f problem certificate verdict → Appends sink.before sink.after (verdict_line verdict)
      → CheckEnds f words problem certificate sink (verdict_status verdict)
  -- a write failed, and a proper prefix of the line was written
  by_sink : (verdict : Verdict) → AsksCheck words → Judges f problem certificate verdict → Rose sink.faults_before sink.faults_after
      → WrotePart sink.before sink.after (verdict_line verdict) → CheckEnds f words problem certificate sink WriteFault
  -- memory for the line could not be had
  by_memory : AsksCheck words → CheckEnds f words problem certificate sink OutOfMemory
