use Rattle.std.proofs.Common.{rules, ◌≡◌}
use Rattle.std.specs.declared.option.Option.TheVariants.{Some}
use Rattle.std.specs.Prelude.{slice_get}
use Rattle.sparse_poly.proofs.LongDivision.{no_first}
use Rattle.sparse_poly.proofs.dividing.leading_divides.Goals as goal

pub returns : goal.returns
returns c =
    let leading : Some c.in-Some.leading.now ≡ slice_get c.args.terms.now 0 = search rules in
    let highest : Some c.in-Some-first.highest.now ≡ slice_get c.args.divisor.now 0 = search rules in
    λ e. no_first c.args.divisor.now c.args.terms.now c.in-Some-first.highest.now c.in-Some.leading.now highest leading c.requires.divisor c.requires.poly (c.divides_term.ensures e)
