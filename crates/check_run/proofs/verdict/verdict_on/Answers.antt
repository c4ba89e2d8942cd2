use Rattle.std.proofs.lemmas.Result.{err_from_is_err_and}
use Rattle.check_run.specs.Verdicts.{no_root, no_text, no_memory}
use Rattle.check_run.proofs.verdict.verdict_on.Goals as goal

pub returns-in_err-root : goal.returns-in_err-root
returns-in_err-root c =
    let p = err_from_is_err_and c.from_residual.result c.from_residual.ensures.1 in
    rw (p.1, p.2) (no_root c.in_err-root.field-0.0 c.in_err-root.ensures)

pub returns-in_err-certificate : goal.returns-in_err-certificate
returns-in_err-certificate c =
    let p = err_from_is_err_and c.from_residual-in_err-certificate.result c.from_residual-in_err-certificate.ensures.1 in
    rw (p.1, p.2) (no_text c.in_ok-root.ensures.0 c.in_ok-root.root c.in_err-certificate.field-0.0 c.in_ok-root.ensures.1 c.in_err-certificate.ensures)

pub returns : goal.returns
returns c = no_memory
