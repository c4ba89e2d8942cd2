use Rattle.std.proofs.Common.{refl}
use Rattle.leaf_cert.specs.declared.certificate.RawEntry.TheVariants.{Close}
use Rattle.case_history.specs.Replay.{MayClose}
use Rattle.cert_check.proofs.Replaying.{replay_settled}
use Rattle.cert_check.proofs.replay.Replay.close.Goals as goal

pub returns : goal.returns
returns c root h r =
    let may : MayClose h c.args.n c.args.k = c.in_default.ensures.cause root h r in
    rw c.settle.ensures (replay_settled root h c.args.self.now r (Close c.args.n c.args.k) c.args.n may may.pending (λ m. refl) refl refl)
