use Rattle.std.proofs.Common.{rules, Some}
use Rattle.std.proofs.lemmas.Result.{IfOk-weaker}
use Rattle.label_tuples.specs.Extended.{singles}
use Rattle.label_tuples.proofs.all_singles.Goals as goal

pub returns : goal.returns
returns c = IfOk-weaker c.extended.result _ _ (λ v q. q (λ t x. Some (singles.make t x)) (λ t x o h. search rules)) c.extended.ensures
