use Rattle.std.proofs.Common.{rules, Some, ◌∙◌, ap}
use Rattle.std.proofs.lemmas.Result.{IfOk-weaker}
use Rattle.label_tuples.specs.Extended.{every, fours}
use Rattle.label_tuples.proofs.all_fours.Goals as goal

pub returns : goal.returns
returns c =
    IfOk-weaker c.extended.result _ _ (λ v q. q (λ t x. Some (fours.make t x)) (λ t x o h. search rules) ∙ ap (λ ts. every fours.make ts c.args.labels) (c.deref.ensures.value ∙ c.in_ok-found.ensures)) c.extended.ensures
