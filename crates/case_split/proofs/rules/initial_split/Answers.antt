use Rattle.std.proofs.Common.{rules, ◌≡◌, ◌≢◌, ◌∙◌, sym, ap, subst}
use Rattle.std.specs.Prelude.{[]}
use Rattle.sparse_poly.specs.Contributions.{IsPoly}
use Rattle.sparse_poly.specs.Reads.{coefficient_of_power, leading_in}
use Rattle.case_rules.specs.Cases.{poly}
use Rattle.case_rules.proofs.CanMoves.{leading_poly}
use Rattle.case_rules.proofs.Nonzero.{leading_nonzero, rest_nonzero}
use Rattle.case_split.proofs.Due.{nonzero_at}
use Rattle.case_split.proofs.rules.initial_split.Goals as goal

pub lowest_dividing-requires : goal.lowest_dividing-requires
lowest_dividing-requires c =
    let same : c.at-poly.result.now ≡ poly c.args.case.now c.args.i = search rules in
    let some : c.at-poly.result.now ≢ [] = λ e. nonzero_at c.args.case.now c.requires.in_order c.args.i c.requires.place (sym same ∙ e) in
    let initial : c.in_ok-initial.initial ≡ leading_in c.in-Some.var c.at-poly.result.now = c.in_ok-initial.ensures ∙ ap (λ k. coefficient_of_power c.in-Some.var k c.at-poly.result.now) c.degree_in.ensures in
    let whole : IsPoly c.in_ok-initial.initial = subst IsPoly (sym initial) (leading_poly c.in-Some.var c.at-poly.result.now (search rules)) in
    rest_nonzero c.known.result.now c.in_ok-initial.initial c.in_ok-rest.field-0.factor c.in_ok-rest.field-0.rest whole (λ e. leading_nonzero c.in-Some.var c.at-poly.result.now some (sym initial ∙ e)) c.in_ok-rest.ensures
