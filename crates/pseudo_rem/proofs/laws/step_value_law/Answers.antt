use Rattle.std.proofs.Common.{sym, ◌∙◌}
use Rattle.pseudo_rem.proofs.Values.{values_of}
use Rattle.pseudo_rem.proofs.laws.step_value_law.Goals as goal

pub returns : goal.returns
returns g c s units q p step is h = values_of g.F.CharZeroField.field g.F.CharZeroField.laws s is step.l q step.a p step.m step.r (λ m. sym (h.result.sums m) ∙ h.stripped.product m)
