use Rattle.std.proofs.Common.{rules, Some, ◌∙◌, ap}
use Rattle.std.proofs.lemmas.Result.{IfOk-weaker}
use Rattle.label_tuples.specs.Extended.{every, pairs, triples}
use Rattle.label_tuples.proofs.all_triples.Goals as goal

pub returns : goal.returns
returns c =
    let n = c.args.labels in
    let b = c.in_ok-found-2.ensures (λ t x. Some (pairs.make t x)) (λ t x o h. search rules) ∙ ap (λ ts. every pairs.make ts n) (c.deref.ensures.value ∙ c.in_ok-found.ensures) in
    IfOk-weaker c.extended-2.result _ _ (λ v q. q (λ t x. Some (triples.make t x)) (λ t x o h. search rules) ∙ ap (λ ts. every triples.make ts n) (c.deref-2.ensures.value ∙ b)) c.extended-2.ensures
