use Rattle.std.proofs.Common.{rules, ◌≡◌, ◌-◌, length}
use Rattle.std.specs.Prelude.{slice_get}
use Rattle.std.specs.declared.option.Option.TheVariants.{Some}
use Rattle.pseudo_rem.proofs.Scans.{rest_of-last}
use Rattle.case_split.proofs.conditions.rest_after.Goals as goal

pub returns-in-Some : goal.returns-in-Some
returns-in-Some c =
    let last : Some c.in-Some.step.now ≡ slice_get c.args.steps.now (length c.args.steps.now - 1) = search rules in
    rest_of-last c.args.n.now c.args.steps.now c.in-Some.step.now last
