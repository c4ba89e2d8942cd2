use Rattle.std.proofs.Common.{◌≡◌, refl, ◌∙◌}
use Rattle.std.proofs.lemmas.Option.{slice_get_within}
use Rattle.std.specs.declared.option.Option.TheVariants.{Some}
use Rattle.leaf_cert.specs.declared.certificate.RawEntry.TheVariants.{Publish}
use Rattle.case_history.specs.History.{decisions_of}
use Rattle.cert_check.proofs.Replaying.{pending_is, replay_settled}
use Rattle.cert_check.proofs.replay.Replay.publish.Goals as goal

pub settle-requires : goal.settle-requires
settle-requires c = slice_get_within c.args.self.now.cases c.args.n (Some c.in-Some.path.now) c.in-Some.ensures

pub returns-in-Err : goal.returns-in-Err
returns-in-Err c h r =
    let p = pending_is c.args.root.now h _ r c.args.n _ c.in-Some.ensures in
    c.leaf_stop.ensures c.args.root.now h c.args.decisions.now c.args.lines.now c.args.equations.now c.args.end.now p.0 (c.is.ensures.0 c.if-not-is.false ∙ p.1) c.in-Err.ensures

pub returns : goal.returns
returns c h r =
    let p = pending_is c.args.root.now h _ r c.args.n _ c.in-Some.ensures in
    let same : c.args.decisions.now ≡ decisions_of h c.args.n = c.is.ensures.0 c.if-not-is.false ∙ p.1 in
    rw c.settle.ensures (replay_settled c.args.root.now h c.args.self.now r (Publish c.args.n c.args.decisions.now c.args.lines.now c.args.equations.now c.args.end.now) c.args.n
    (record { pending = p.0; same = same; good = c.in_default-check_leaf.ensures }) p.0 (λ m. refl) refl refl)
