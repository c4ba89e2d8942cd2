use Rattle.std.proofs.Common.{sym, ◌∙◌, ap, refl}
use Rattle.std.specs.Ordering.{is_eq}
use Rattle.sparse_poly.proofs.Evaluation.{tied}
use Rattle.derive_lines.proofs.KnownSets.{same_test}
use Rattle.derive_lines.proofs.known.is_same.Goals as goal

pub returns-in-Equal : goal.returns-in-Equal
returns-in-Equal c = (λ t. (same_test c.args.q.now c.args.p.now).0 (ap is_eq (sym c.order.ensures ∙ c.in-Equal.is)), λ e. refl)

pub returns-in_default : goal.returns-in_default
returns-in_default c = (λ t. absurd (cc t), λ e. absurd (c.in_default.not-Equal (c.order.ensures ∙ tied _ ((same_test c.args.q.now c.args.p.now).1 e))))
