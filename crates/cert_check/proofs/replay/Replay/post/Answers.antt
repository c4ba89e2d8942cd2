use Rattle.std.proofs.Common.{refl, sym, ◌∙◌, ap, subst, length, List}
use Rattle.derive_lines.specs.declared.parts.Decision.{Decision}
use Rattle.derive_lines.specs.Refuting.{Refutes}
use Rattle.refute_cert.specs.Refutations.{IsCertStop}
use Rattle.cert_check.specs.Kept.{ReplayParts, lists_of, IsReplay}
use Rattle.cert_check.proofs.Replaying.{lists_of-length, lists_of-push, replay_posted, with_parts}
use Rattle.cert_check.proofs.replay.Replay.post.Goals as goal

pub returns-in-Err : goal.returns-in-Err
returns-in-Err c h r =
    c.pattern_stop.ensures c.args.root.now h c.args.decisions.now c.args.lines.now c.args.end
    (c.len.ensures ∙ (c.self.inside.patterns.ok.0 ∙ (sym (lists_of-length c.self.inside.patterns.items) ∙ (ap (λ (k : ReplayParts). length k.stored) c.self.view_is ∙ ap length r.stored_are))))
    (subst (λ (l : List Decision). IsCertStop c.args.root.now l c.args.lines.now c.args.end c.in-Err.stop) c.items.ensures c.in-Err.ensures)

pub returns : goal.returns
returns c h r =
    let old = subst (IsReplay c.args.root.now h) (sym c.self.view_is) r in
    let good = subst (λ (l : List Decision). Refutes c.args.root.now l c.args.lines.now c.args.end) c.items.ensures c.in_default.ensures in
    with_parts c.args.root.now _ _ _ _ _ (replay_posted c.args.root.now h _ old c.args.decisions.now c.args.lines.now c.args.end good) refl
    (ap lists_of c.in_ok-push.ensures.items ∙ lists_of-push c.self.inside.patterns.items c.args.decisions)
