use Rattle.std.proofs.Common.{rules, arith, ◌≡◌, ◌≢◌, ◌<◌, sym, ap, subst}
use Rattle.std.specs.Prelude.{length, List, []}
use Rattle.case_rules.specs.declared.equation.Equation.{Equation}
use Rattle.case_rules.specs.Cases.{equation_at, poly, count}
use Rattle.case_split.proofs.Due.{none_more, nonzero_at, not_divided, no_more}
use Rattle.case_split.proofs.rules.factor_move.Goals as goal

pub lowest_dividing-requires-clause-nonzero : goal.lowest_dividing-requires-clause-nonzero
lowest_dividing-requires-clause-nonzero c =
    let place : c.loop-i.i < count c.args.case.now = omega (arith, c.loop-i-test.true, c.loop-i.auto.i-end, c.len-i-end.ensures, ap (λ (es : List Equation). length es) c.equations-equations.ensures) in
    subst (λ (es : List Equation). (equation_at es c.loop-i.i).poly ≢ []) (sym c.equations-equations.ensures) (nonzero_at c.args.case.now c.requires c.loop-i.i place)

pub loop-i-preserved-in_default : goal.loop-i-preserved-in_default
loop-i-preserved-in_default c =
    let same : (equation_at c.equations-equations.result c.loop-i.i).poly ≡ poly c.args.case.now c.loop-i.i = ap (λ (es : List Equation). (equation_at es c.loop-i.i).poly) c.equations-equations.ensures in
    none_more _ _ c.loop-i.invariant (not_divided c.args.case.now c.loop-i.i _ same c.in_default.ensures)

pub loop-i-preserved : goal.loop-i-preserved
loop-i-preserved c =
    let same : c.at.result.now ≡ poly c.args.case.now c.loop-i.i = search rules in
    none_more _ _ c.loop-i.invariant (no_more c.args.case.now c.loop-i.i c.at.result.now same (c.is_variable.ensures.0 (search rules)))

pub returns : goal.returns
returns c = λ i h. c.loop-i.invariant i (omega (arith, h.place, c.loop-i-test.false, c.loop-i.auto.i-end, c.len-i-end.ensures, ap (λ (es : List Equation). length es) c.equations-equations.ensures)) h
