use Rattle.std.proofs.Common.{rules, arith, ◌≢◌, ◌-◌, ◌+◌, subst}
use Rattle.std.specs.declared.option.Option.TheVariants.{Some}
use Rattle.sparse_poly.specs.Reads.{main_variable}
use Rattle.case_rules.specs.Cases.{poly}
use Rattle.case_rules.specs.Rules.{HasMain}
use Rattle.case_split.proofs.Ordered.{None_paired_from, none_more_paired, paired_at}
use Rattle.case_split.proofs.pairs.pair.Goals as goal

pub equations-preserved : goal.equations-preserved
equations-preserved c =
    let none : None_paired_from c.args.case.now (c.equations.i - 1 + 1) = subst (None_paired_from c.args.case.now) (omega (arith, c.equations-test.true)) c.equations.invariant.none in
    let has : HasMain c.args.case.now c.in-Some.var (c.equations.i - 1) = record { place = omega (arith, c.equations.invariant.within, c.equations-test.true); main = search rules } in
    let other : main_variable (poly c.args.case.now (c.equations.i - 1 - 1)) ≢ Some c.in-Some.var = search rules in
    record {
      within = omega (arith, c.equations.invariant.within);
      none = none_more_paired c.args.case.now c.requires.in_order (c.equations.i - 1) (c.equations.i - 1 - 1) c.in-Some.var (omega (arith, c.equations-test.true)) c.requires.main none has other;
    }

pub returns-in-equations : goal.returns-in-equations
returns-in-equations c =
    let none : None_paired_from c.args.case.now (c.equations.i - 1 + 1) = subst (None_paired_from c.args.case.now) (omega (arith, c.equations-test.true)) c.equations.invariant.none in
    let has : HasMain c.args.case.now c.in-Some.var (c.equations.i - 1) = record { place = omega (arith, c.equations.invariant.within, c.equations-test.true); main = search rules } in
    let before : HasMain c.args.case.now c.in-Some.var (c.equations.i - 1 - 1) = search rules in
    paired_at c.args.case.now c.requires.in_order (c.equations.i - 1) (c.equations.i - 1 - 1) c.first_with-p.result c.in-Some.var (omega (arith, c.equations-test.true)) none has before c.first_with-p.ensures
