use Rattle.std.specs.Prelude.{ℕ, List}
use Rattle.std.proofs.Common.{subst}
use Rattle.std.proofs.lemmas.Result.{err_from_is_err_and}
use Rattle.cert_read.specs.Faults.{IsCertFault}
use Rattle.check_run.specs.Migrations.{not_read, not_text}
use Rattle.check_run.proofs.migrating.certificate_of.Goals as goal

pub returns-in_err-bytes-clause-read : goal.returns-in_err-bytes-clause-read
returns-in_err-bytes-clause-read g c =
    let p = err_from_is_err_and c.from_residual.result c.from_residual.ensures.1 in
    rw (p.1, p.2) (not_read c.in_err-bytes.field-0.0 c.in_err-bytes.ensures.bytes)

pub returns-clause-read : goal.returns-clause-read
returns-clause-read g c =
    let bytes = c.in_ok-bytes.bytes.items in
    rw c.from.ensures (not_text bytes c.in-Err.fault c.in_ok-bytes.ensures.bytes (subst (λ (b : List ℕ). IsCertFault b c.in-Err.fault) c.deref.ensures.value c.in-Err.ensures))
