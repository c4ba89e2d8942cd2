use Rattle.std.proofs.Common.{rules, ◌≡◌}
use Rattle.std.specs.Prelude.{slice_get}
use Rattle.std.specs.declared.option.Option.TheVariants.{Some}
use Rattle.case_split.proofs.LeadingTerms.{linear_by}
use Rattle.case_split.proofs.variables.linear_in.Goals as goal

pub returns : goal.returns
returns c =
    let first : Some c.in_ok-leading.leading.now ≡ slice_get c.args.poly.now 0 = search rules in
    linear_by c.args.poly.now c.in_ok-leading.leading.now c.variable_of.result c.terms.ensures.poly first c.variable_of.ensures
