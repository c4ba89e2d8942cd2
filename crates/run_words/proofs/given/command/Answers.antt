use Rattle.std.specs.Prelude.{◌≡◌, codes}
use Rattle.std.proofs.Common.{rules, ◌∙◌, ap₂}
use Rattle.std.proofs.lemmas.Result.{IfOk-weaker}
use Rattle.clap.specs.Words.{rule_of, with_rule}
use Rattle.run_words.specs.Words.{command, flag}
use Rattle.run_words.proofs.given.command.Goals as goal

pub returns : goal.returns
unfolding command
returns c =
    let summary : rule_of c.action-summary.result ≡ flag (codes "summary") = search rules in
    let one = c.in_ok-arg.ensures.shape c.valued.ensures.local ∙ ap₂ with_rule c.new-2.ensures.app c.valued.ensures.rule in
    let two = c.in_ok-arg-2.ensures.shape c.valued-2.ensures.local ∙ ap₂ with_rule one c.valued-2.ensures.rule in
    let three = c.in_ok-arg-3.ensures.shape (search rules) ∙ ap₂ with_rule two summary in
    let four = c.in_ok-arg-4.ensures.shape c.valued-3.ensures.local ∙ ap₂ with_rule three c.valued-3.ensures.rule in
    IfOk-weaker c.arg-5.result _ _ (λ r added. added.shape c.valued-4.ensures.local ∙ ap₂ with_rule four c.valued-4.ensures.rule) c.arg-5.ensures
