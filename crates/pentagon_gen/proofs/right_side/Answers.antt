use Rattle.std.proofs.Common.{rules, ap, ◌∙◌, map}
use Rattle.std.specs.Prelude.{filter}
use Rattle.std.proofs.lemmas.Result.{IfOk-weaker}
use Rattle.label_tuples.specs.Extended.{below}
use Rattle.pentagon_gen.specs.Pentagon.{is_inner, right_product}
use Rattle.pentagon_gen.proofs.right_side.Goals as goal

pub returns-clause-products : goal.returns-clause-products
returns-clause-products c =
    let make = right_product c.args.at in
    let test = is_inner c.args.ring.now c.args.at in
    IfOk-weaker c.summands.result _ _ (λ v made. made make test (λ h o k. search rules) ∙ ap (λ n. map make (filter test (below n))) c.labels.ensures.count) c.summands.ensures.products
