-- Why there is no verdict is never a faulty command line.
use Rattle.std.specs.Prelude.{◌≡◌, ℕ, List}
use Rattle.std.proofs.Common.{sym, ◌∙◌}
use Rattle.braid_io.specs.declared.whole.ReadStop.{ReadStop}
use Rattle.braid_io.specs.declared.whole.ReadStop.TheVariants as read
use Rattle.root_input.specs.Streams.{Stream}
use Rattle.root_input.specs.declared.fault.RootStop.{RootStop}
use Rattle.root_input.specs.declared.fault.RootStop.TheVariants as root
use Rattle.cert_read.specs.declared.reader.CertFault.{CertFault}
use Rattle.cert_read.specs.declared.reader.CertFault.TheVariants.{Truncated, Number, Syntax, OutOfMemory as no_text_memory}
use Rattle.check_run.specs.Statuses.{read_status, root_status, text_status}
use Rattle.check_run.specs.Verdicts.{HasNoVerdict, no_root, no_text, no_memory}
use Rattle.check_run.specs.Outcomes.{IsUnjudged, stops_at_problem, stops_at_certificate, has_no_verdict}
use Rattle.check_run.specs.declared.status.Which.{Which}
use Rattle.check_run.specs.declared.status.CheckStatus.{CheckStatus}
use Rattle.check_run.specs.declared.status.CheckStatus.TheVariants.{Usage}

read_is_no_usage : (which : Which) (stop : ReadStop) → read_status which stop ≡ Usage → ⊥
read_is_no_usage which read.Fault e = cc
read_is_no_usage which read.TooLong e = cc
read_is_no_usage which read.OutOfMemory e = cc

root_is_no_usage : (stop : RootStop) → root_status stop ≡ Usage → ⊥
root_is_no_usage (root.Problem fault) e = cc
root_is_no_usage (root.TooManyUnknowns count) e = cc
root_is_no_usage (root.TooManyEquations count) e = cc
root_is_no_usage root.OutOfMemory e = cc

text_is_no_usage : (fault : CertFault) → text_status fault ≡ Usage → ⊥
text_is_no_usage Truncated e = cc
text_is_no_usage (Number line) e = cc
text_is_no_usage (Syntax line) e = cc
text_is_no_usage no_text_memory e = cc

none_is_no_usage : (problem certificate : List ℕ) (status : CheckStatus) → HasNoVerdict problem certificate status → status ≡ Usage → ⊥
none_is_no_usage problem certificate status (no_root stop is) e = root_is_no_usage stop e
none_is_no_usage problem certificate status (no_text stated root fault has is) e = text_is_no_usage fault e
none_is_no_usage problem certificate status no_memory e = cc

pub unjudged_is_no_usage : (problem certificate : Stream) (status : CheckStatus) → IsUnjudged problem certificate status → status ≡ Usage → ⊥
unjudged_is_no_usage problem certificate result (stops_at_problem status not untouched) e = read_is_no_usage _ not.stop (sym not.status_is ∙ e)
unjudged_is_no_usage problem certificate result (stops_at_certificate bytes status reads not) e = read_is_no_usage _ not.stop (sym not.status_is ∙ e)
unjudged_is_no_usage problem certificate result (has_no_verdict first second status reads are none) e = none_is_no_usage first second status none e
