use Rattle.std.proofs.Common.{sym, ◌∙◌}
use Rattle.pseudo_rem.proofs.laws.reduction_law.Goals as goal

pub returns : goal.returns
returns c units q p step h m = sym (h.result.sums m) ∙ h.stripped.product m
