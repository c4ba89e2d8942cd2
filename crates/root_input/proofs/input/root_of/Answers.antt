use Rattle.std.specs.Prelude.{ℕ, List}
use Rattle.std.proofs.Common.{subst}
use Rattle.std.proofs.lemmas.Result.{err_from_is_err_and}
use Rattle.root_input.specs.Inputs.{IsRootStop}
use Rattle.root_input.proofs.Readings.{read_refused, root_refused}
use Rattle.root_input.proofs.input.root_of.Goals as goal

pub returns-in_err-bytes-clause-root : goal.returns-in_err-bytes-clause-root
returns-in_err-bytes-clause-root g c =
    let p = err_from_is_err_and c.from_residual.result c.from_residual.ensures.1 in
    rw (p.1, p.2) (read_refused _ c.in_err-bytes.field-0.0 c.in_err-bytes.ensures.bytes)

pub returns-in_err-root_of_bytes-clause-root : goal.returns-in_err-root_of_bytes-clause-root
returns-in_err-root_of_bytes-clause-root g c =
    let p = err_from_is_err_and c.from_residual-in_err-root_of_bytes.result c.from_residual-in_err-root_of_bytes.ensures.1 in
    let bytes = c.in_ok-bytes.bytes.items in
    let stop = c.in_err-root_of_bytes.field-0.0 in
    rw (p.1, p.2) (root_refused _ bytes stop c.in_ok-bytes.ensures.bytes (subst (λ (b : List ℕ). IsRootStop b stop) c.deref.ensures.value c.in_err-root_of_bytes.ensures))
