-- How a certificate's text is written again in version 2.
use Rattle.std.specs.Prelude.{ℕ, List, length}
use Rattle.std.specs.Io.KnownBytes.{Appends}
use Rattle.braid_io.specs.Causes.{Rose, WrotePart}
use Rattle.leaf_cert.specs.declared.certificate.Certificate.{Certificate}
use Rattle.cert_text.specs.declared.version.Version.TheVariants.{Two}
use Rattle.cert_text.specs.Sentences.{text_in}
use Rattle.cert_text.specs.Text.{IsText}
use Rattle.cert_read.specs.declared.reader.CertFault.{CertFault}
use Rattle.cert_read.specs.Faults.{IsCertFault}
use Rattle.root_input.specs.Streams.{Stream, ReadsAll}
use Rattle.check_run.specs.Statuses.{text_status}
use Rattle.check_run.specs.Inputs.{max_certificate_bytes, IsNotRead}
use Rattle.check_run.specs.declared.status.Which.TheVariants as which
use Rattle.check_run.specs.declared.status.CheckStatus.{CheckStatus}
use Rattle.check_run.specs.declared.status.CheckStatus.TheVariants.{Migrated, WriteFault, OutOfMemory}

-- all bytes of the certificate were read, and they are the text of this certificate
pub record ReadsCertificate (certificate : Stream) (read : Certificate) : Type 0 where
  pub bytes : List ℕ
  pub reads : ReadsAll max_certificate_bytes certificate bytes
  pub is_text : IsText bytes read

-- Why a certificate gives nothing that could be written.
pub data IsNotMigrated (certificate : Stream) : CheckStatus → Type 0 where
  -- it was not read to its end
  not_read : (status : CheckStatus) → IsNotRead which.Certificate certificate status → IsNotMigrated certificate status
  -- it was, and its bytes are not the text of a certificate
  not_text : (bytes : List ℕ) (fault : CertFault) → ReadsAll max_certificate_bytes certificate bytes → IsCertFault bytes fault → IsNotMigrated certificate (text_status fault)

-- How a migration ends.
pub data MigrationEnds (certificate sink : Stream) : CheckStatus → Type 0 where
  -- there is no certificate to write
  by_certificate : (status : CheckStatus) → IsNotMigrated certificate status → MigrationEnds certificate sink status
  -- there is one, and its whole text in version 2 was written
  by_text : (read : Certificate) → ReadsCertificate certificate read → Appends sink.before sink.after (text_in Two read) → MigrationEnds certificate sink (Migrated (length read.entries))
  -- a write failed, and a proper prefix of that text was written
  by_fault : (read : Certificate) → ReadsCertificate certificate read → Rose sink.faults_before sink.faults_after → WrotePart sink.before sink.after (text_in Two read)
      → MigrationEnds certificate sink WriteFault
  -- memory for the text could not be had
  by_lack : MigrationEnds certificate sink OutOfMemory
