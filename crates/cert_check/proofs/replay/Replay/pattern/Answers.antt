use Rattle.std.proofs.Common.{◌≡◌, ◌∙◌, ap}
use Rattle.cert_check.specs.Kept.{ReplayParts, lists_of}
use Rattle.cert_check.proofs.Replaying.{pattern_at}
use Rattle.cert_check.proofs.replay.Replay.pattern.Goals as goal

pub returns : goal.returns
returns c =
    let same : lists_of c.deref.result.now ≡ c.args.self.now.stored = ap lists_of c.deref.ensures.value ∙ ap (λ (k : ReplayParts). k.stored) c.self.view_is in
    rw (c.copied.ensures, ← same) (pattern_at c.deref.result.now c.args.k c.get.result c.get.ensures.lookup)
