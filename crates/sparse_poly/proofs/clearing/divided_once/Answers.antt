use Rattle.std.proofs.Common.{rules, sym, ◌∙◌}
use Rattle.std.proofs.lemmas.Bool.{true≢false}
use Rattle.sparse_poly.specs.Clearing.{IsInForm, DividesOpenly}
use Rattle.sparse_poly.proofs.OneQuotient.{IsDivision-made, stopped_whole, some_quotient, degree_apart, heavy_apart}
use Rattle.sparse_poly.proofs.clearing.divided_once.Goals as goal

pub returns-then-contains : goal.returns-then-contains
returns-then-contains c = λ e h i. i.apart (c.contains.ensures.0 c.if-contains.true)

pub returns-in-Ok-times : goal.returns-in-Ok-times
returns-in-Ok-times c =
    let form : IsInForm c.args.n.now = search rules in
    let q : DividesOpenly c.args.n.now c.args.rest.now c.in-Some.quotient = some_quotient c.args.n.now c.args.rest.now c.in_ok-quotient.field-0 c.in-Some.quotient c.in-Some.is c.in_ok-quotient.ensures in
    IsDivision-made c.args.units.now c.args.n.now c.args.factor.now c.args.rest.now c.in-Ok.product c.in-Some.quotient c.in-Ok-times.field-0 form
    (λ e. true≢false (sym (c.is_zero.ensures.1 e) ∙ c.if-is_zero.false))
    (λ m. true≢false (sym (c.contains.ensures.1 m) ∙ c.if-contains.false))
    q c.in-Ok.ensures c.in-Ok-times.ensures

pub returns-in-Err-Degree-times : goal.returns-in-Err-Degree-times
returns-in-Err-Degree-times c =
    let q : DividesOpenly c.args.n.now c.args.rest.now c.in-Some.quotient = some_quotient c.args.n.now c.args.rest.now c.in_ok-quotient.field-0 c.in-Some.quotient c.in-Some.is c.in_ok-quotient.ensures in
    λ e h i. stopped_whole c.args.units.now c.args.n.now c.args.factor.now c.args.rest.now c.in-Ok.product c.in-Some.quotient e h c.in-Err-Degree-times.field-0 q c.in-Ok.ensures c.in-Err-Degree-times.ensures (degree_apart _ _ c.in-Err-Degree-times.field-0-is) i

pub returns-in-Err-Heavy-times : goal.returns-in-Err-Heavy-times
returns-in-Err-Heavy-times c =
    let q : DividesOpenly c.args.n.now c.args.rest.now c.in-Some.quotient = some_quotient c.args.n.now c.args.rest.now c.in_ok-quotient.field-0 c.in-Some.quotient c.in-Some.is c.in_ok-quotient.ensures in
    λ e h i. stopped_whole c.args.units.now c.args.n.now c.args.factor.now c.args.rest.now c.in-Ok.product c.in-Some.quotient e h c.in-Err-Heavy-times.field-0 q c.in-Ok.ensures c.in-Err-Heavy-times.ensures (heavy_apart _ _ c.in-Err-Heavy-times.field-0-is) i
