use Rattle.std.proofs.Common.{rules, arith, ◌≡◌, ◌+◌, ◌-◌, ◌/◌, ◌∙◌, sym, ap}
use Rattle.std.specs.declared.cmp.Ordering.TheVariants.{Less, Equal, Greater}
use Rattle.sparse_poly.specs.Order.{poly_cmp}
use Rattle.case_rules.specs.Cases.{poly}
use Rattle.case_split.proofs.Dying.{half_within, between_above, between_below, found_here, found_nowhere}
use Rattle.case_split.proofs.dead.first_of.Goals as goal

pub halves-preserved-in-Less : goal.halves-preserved-in-Less
halves-preserved-in-Less c =
    let same : c.at.result.now ≡ poly c.args.case.now (c.halves.low + (c.halves.high - c.halves.low) / 2) = search rules in
    let half = half_within c.halves.low c.halves.high c.halves-test.true in
    let less : poly_cmp c.at.result.now c.args.poly.now ≡ Less = sym c.order.ensures ∙ c.in-Less.is in
    between_above c.args.case.now c.requires.in_order c.args.poly.now c.args.n c.requires.within c.halves.low c.halves.high _ c.halves.invariant half.1 (ap (λ p. poly_cmp p c.args.poly.now) (sym same) ∙ less)

pub halves-preserved : goal.halves-preserved
halves-preserved c =
    let same : c.at.result.now ≡ poly c.args.case.now (c.halves.low + (c.halves.high - c.halves.low) / 2) = search rules in
    let half = half_within c.halves.low c.halves.high c.halves-test.true in
    let greater : poly_cmp c.at.result.now c.args.poly.now ≡ Greater = sym c.order.ensures ∙ c.in-Greater.is in
    between_below c.args.case.now c.requires.in_order c.args.poly.now c.args.n c.requires.within c.halves.low c.halves.high _ c.halves.invariant half.0 half.1 (ap (λ p. poly_cmp p c.args.poly.now) (sym same) ∙ greater)

pub returns-in-Equal : goal.returns-in-Equal
returns-in-Equal c =
    let same : c.at.result.now ≡ poly c.args.case.now (c.halves.low + (c.halves.high - c.halves.low) / 2) = search rules in
    let half = half_within c.halves.low c.halves.high c.halves-test.true in
    let equal : poly_cmp c.at.result.now c.args.poly.now ≡ Equal = sym c.order.ensures ∙ c.in-Equal.is in
    found_here c.args.case.now c.requires.in_order c.args.poly.now c.args.n c.requires.within c.halves.low c.halves.high _ c.halves.invariant half.1 (ap (λ p. poly_cmp p c.args.poly.now) (sym same) ∙ equal)

pub returns : goal.returns
returns c = found_nowhere c.args.case.now c.requires.in_order c.args.poly.now c.args.n c.requires.within c.halves.low c.halves.high c.halves.invariant (omega (arith, c.halves-test.false))
