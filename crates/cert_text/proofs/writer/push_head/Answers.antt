use Rattle.std.proofs.Common.{◌∙◌, ◌++◌, ap, codes}
use Rattle.std.proofs.lemmas.Result.{on_ok_weaker}
use Rattle.cert_text.specs.Fields.{ended, count_fields}
use Rattle.cert_text.proofs.Joined.{head_joined}
use Rattle.cert_text.proofs.writer.push_head.Goals as goal

pub returns : goal.returns
returns c =
    let h = c.args.c.now in
    on_ok_weaker c.push_count-3.result
    (λ e. e ∙ ap (λ x. x ++ ended (count_fields (codes "budget") h.budget)) (c.in_ok-push_count-2.ensures
    ∙ ap (λ x. x ++ ended (count_fields (codes "equations") h.equations)) (c.in_ok-push_count.ensures
    ∙ ap (λ x. x ++ ended (count_fields (codes "unknowns") h.unknowns)) c.in_ok-push_text.ensures))
    ∙ head_joined h c.args.into.now.items)
    c.push_count-3.ensures
