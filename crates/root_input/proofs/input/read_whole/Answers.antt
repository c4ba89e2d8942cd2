use Rattle.std.proofs.lemmas.Result.{IfOk-weaker}
use Rattle.root_input.proofs.Readings.{read_or_stopped, took_some}
use Rattle.root_input.proofs.input.read_whole.Goals as goal

pub returns-clause-bytes : goal.returns-clause-bytes
returns-clause-bytes g c =
    let all = IfOk-weaker c.read_all.result _ _ (λ v h. record { taken = h.0; ended = h.1; short = h.2 }) c.read_all.ensures.all in
    read_or_stopped (λ v. v.items) c.args.limit _ c.read_all.result all c.read_all.ensures.fault c.read_all.ensures.long

pub returns-clause-suffix : goal.returns-clause-suffix
returns-clause-suffix g c = took_some (λ v. v.items) c.args.limit _ _ _ c.read_all.result c.read_all.ensures.all c.read_all.ensures.part
