-- The statuses that the verdicts and the refusals of the stages become.
use Rattle.std.specs.Prelude.{Bool, true, false}
use Rattle.braid_io.specs.declared.whole.ReadStop.{ReadStop}
use Rattle.braid_io.specs.declared.whole.ReadStop.TheVariants.{Fault, TooLong as long, OutOfMemory as no_read_memory}
use Rattle.root_input.specs.declared.fault.RootStop.{RootStop}
use Rattle.root_input.specs.declared.fault.RootStop.TheVariants as root
use Rattle.cert_read.specs.declared.reader.CertFault.{CertFault}
use Rattle.cert_read.specs.declared.reader.CertFault.TheVariants.{OutOfMemory as no_text_memory}
use Rattle.check_run.specs.declared.status.Which.{Which}
use Rattle.check_run.specs.declared.status.Verdict.{Verdict}
use Rattle.check_run.specs.declared.status.Verdict.TheVariants as verdict
use Rattle.check_run.specs.declared.status.CheckStatus.{CheckStatus}
use Rattle.check_run.specs.declared.status.CheckStatus.TheVariants.{Accepted, Migrated, ReadFault, TooLong, Problem, TooManyUnknowns, TooManyEquations, Certificate, Refused, WriteFault, OutOfMemory}

-- where one of the sources was not read to its end
abbrev pub read_status : Which → ReadStop → CheckStatus
read_status which Fault = ReadFault which
read_status which long = TooLong which
read_status which no_read_memory = OutOfMemory

-- where the problem's bytes have no root
abbrev pub root_status : RootStop → CheckStatus
root_status (root.Problem fault) = Problem fault
root_status (root.TooManyUnknowns count) = TooManyUnknowns count
root_status (root.TooManyEquations count) = TooManyEquations count
root_status root.OutOfMemory = OutOfMemory

-- where the certificate's bytes are not the text of a certificate
abbrev pub text_status : CertFault → CheckStatus
text_status no_text_memory = OutOfMemory
text_status fault = Certificate fault

-- where the certificate was judged
abbrev pub verdict_status : Verdict → CheckStatus
verdict_status (verdict.Accepted leaves opens) = Accepted leaves opens
verdict_status (verdict.Refused part number cause) = Refused part number cause

-- something of a verdict's line or of a text may have been written
abbrev pub may_write : CheckStatus → Bool
may_write (Accepted leaves opens) = true
may_write (Migrated entries) = true
may_write (Refused part number cause) = true
may_write WriteFault = true
may_write status = false
