use Rattle.std.proofs.Common.{◌∙◌}
use Rattle.example_tests.proofs.Rooting.{started}
use Rattle.example_tests.proofs.cases.end_at.Goals as goal

pub loop-letter-init : goal.loop-letter-init
loop-letter-init c =
    let start = started c.args.root.now c.args.budget c.in_ok-reached.reached (c.in_ok-reached.ensures ∙ c.in_ok-first.ensures) (c.belongs_law.ensures.root c.args.root.now c.requires) in
    record { belongs = start.0; within = start.1 }
