use Rattle.std.specs.Prelude.{ℕ, ◌+◌, ◌*◌}
use Rattle.std.proofs.Common.{sym, ap, ◌∙◌}
use Rattle.cert_summary.proofs.Cases.{cases_are}
use Rattle.cert_summary.proofs.counting.case_count.Goals as goal

pub returns : goal.returns
returns c = ap (λ (n : ℕ). 2 * n + 1) c.kind_count.ensures ∙ sym (cases_are c.args.entries.now)
