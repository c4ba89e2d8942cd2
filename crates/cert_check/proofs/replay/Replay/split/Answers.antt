use Rattle.std.proofs.Common.{◌∙◌, ap}
use Rattle.cert_check.specs.Kept.{ReplayParts}
use Rattle.cert_check.proofs.Replaying.{replay_split_by}
use Rattle.cert_check.proofs.replay.Replay.split.Goals as goal

pub returns : goal.returns
returns c root h r =
    let settled = c.self.view_is ∙ c.settle.ensures in
    replay_split_by root h c.args.self.now r c.args.n c.args.by.now c.in-Some.path.now c.in_ok-zero.zero c.in_ok-nonzero.nonzero c.self.inside.cases.items c.push.new.self.items c.push-2.new.self.items _
    c.in-Some.ensures (ap (λ (k : ReplayParts). k.cases) settled) c.in_ok-zero.ensures c.in_ok-nonzero.ensures c.in_ok-push.ensures.items c.in_ok-push-2.ensures.items (ap (λ (k : ReplayParts). k.stored) settled)
