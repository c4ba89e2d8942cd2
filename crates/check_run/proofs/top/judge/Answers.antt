use Rattle.std.specs.Prelude.{ℕ, List, MatchResult, refl}
use Rattle.std.proofs.Common.{subst}
use Rattle.std.proofs.lemmas.Result.{err_from_is_err_and}
use Rattle.check_run.specs.Verdicts.{IsVerdict, HasNoVerdict}
use Rattle.check_run.specs.Outcomes.{stops_at_problem, stops_at_certificate}
use Rattle.check_run.proofs.Judged.{judged_or_not}
use Rattle.check_run.proofs.top.judge.Goals as goal

pub returns-in_err-problem_bytes-clause-verdict : goal.returns-in_err-problem_bytes-clause-verdict
returns-in_err-problem_bytes-clause-verdict g c =
    let p = err_from_is_err_and c.from_residual.result c.from_residual.ensures.1 in
    rw (p.1, p.2) (stops_at_problem c.in_err-problem_bytes.field-0.0 c.in_err-problem_bytes.ensures.bytes (record { same = refl; quiet = refl }))

pub returns-in_err-certificate_bytes-clause-verdict : goal.returns-in_err-certificate_bytes-clause-verdict
returns-in_err-certificate_bytes-clause-verdict g c =
    let p = err_from_is_err_and c.from_residual-in_err-certificate_bytes.result c.from_residual-in_err-certificate_bytes.ensures.1 in
    rw (p.1, p.2) (stops_at_certificate c.in_ok-problem_bytes.problem_bytes.items c.in_err-certificate_bytes.field-0.0 c.in_ok-problem_bytes.ensures.bytes c.in_err-certificate_bytes.ensures.bytes)

pub returns-clause-verdict : goal.returns-clause-verdict
returns-clause-verdict g c =
    let first = c.in_ok-problem_bytes.problem_bytes.items in
    let second = c.in_ok-certificate_bytes.certificate_bytes.items in
    let result = c.verdict_on.result in
    let one = subst (λ (bytes : List ℕ). MatchResult result (IsVerdict bytes c.deref-2.result.now) (HasNoVerdict bytes c.deref-2.result.now)) c.deref.ensures.value c.verdict_on.ensures in
    let both = subst (λ (bytes : List ℕ). MatchResult result (IsVerdict first bytes) (HasNoVerdict first bytes)) c.deref-2.ensures.value one in
    judged_or_not _ (record { root_law = c.root_law.ensures; accepted_law = c.accepted_law.ensures }) _ _ first second result c.in_ok-problem_bytes.ensures.bytes c.in_ok-certificate_bytes.ensures.bytes both
