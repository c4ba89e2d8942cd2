use Rattle.std.proofs.Common.{rules, arith, ◌≡◌, ◌<◌, sym, ap, subst}
use Rattle.sparse_poly.specs.Reads.{HaveMainVariables}
use Rattle.case_rules.specs.Cases.{polys, known}
use Rattle.case_rules.specs.Ends as ends
use Rattle.std.specs.Prelude.{length, List}
use Rattle.sparse_poly.specs.declared.Term.{Term}
use Rattle.pseudo_rem.specs.declared.remainders.Step.{Step}
use Rattle.case_rules.specs.Rules.{None_has, IsLeast, IsRefutedAt, HasZeroRemainder, condition}
use Rattle.case_rules.proofs.Belonging.{regular}
use Rattle.case_rules.proofs.EndsBelong.{triangular_checks}
use Rattle.case_rules.proofs.Regular.{settled_variables}
use Rattle.case_split.proofs.Due.{none_more, none_case, some_case}
use Rattle.case_split.proofs.LeadingBack.{condition_is}
use Rattle.case_split.proofs.Running.{triangular_end}
use Rattle.case_split.proofs.conditions.settled.Goals as goal

pub zero_remainder-requires-clause-variables : goal.zero_remainder-requires-clause-variables
zero_remainder-requires-clause-variables c =
    let same : c.deref.result.now ≡ polys c.args.case.now = search rules in
    subst HaveMainVariables (sym same) (settled_variables c.args.case.now (regular c.args.root.now c.args.case.now c.requires.belongs) c.requires.alive c.requires.settled)

pub returns-in-Some : goal.returns-in-Some
returns-in-Some c =
    let place : c.conditions.k < length (known c.args.case.now) = omega (arith, c.conditions-test.true, ap (λ (ns : List (List Term)). length ns) c.known.ensures) in
    let same : c.index-known-k.result ≡ condition c.args.case.now c.conditions.k = condition_is c.args.case.now c.known-in-conditions.result.now c.conditions.k c.index-known-k.result c.known-in-conditions.ensures place c.index-known-k.is in
    let zero : HasZeroRemainder c.args.case.now (condition c.args.case.now c.conditions.k) c.in-Some.steps.items = subst (λ n. HasZeroRemainder c.args.case.now n c.in-Some.steps.items) same (some_case _ _ _ _ c.in_ok-steps.ensures c.in-Some.is) in
    let least : IsLeast (IsRefutedAt c.args.case.now) c.conditions.k = record { has = record { place = place; steps = c.in-Some.steps.items; remainder = zero }; none_below = c.conditions.invariant.none } in
    λ budget. ends.IsEnd.refuted c.args.case.now c.conditions.k c.in_ok-refuted.field-0 c.requires.alive c.requires.settled least c.in_ok-refuted.ensures

pub conditions-preserved : goal.conditions-preserved
conditions-preserved c =
    let place : c.conditions.k < length (known c.args.case.now) = omega (arith, c.conditions-test.true, ap (λ (ns : List (List Term)). length ns) c.known.ensures) in
    let same : c.index-known-k.result ≡ condition c.args.case.now c.conditions.k = condition_is c.args.case.now c.known-in-conditions.result.now c.conditions.k c.index-known-k.result c.known-in-conditions.ensures place c.index-known-k.is in
    let none : (steps : List Step) → HasZeroRemainder c.args.case.now c.index-known-k.result steps → ⊥ = none_case _ _ _ c.in_ok-steps.ensures c.in_default.is in
    record {
      within = omega (arith, place);
      none = none_more _ _ c.conditions.invariant.none (λ (h : IsRefutedAt c.args.case.now c.conditions.k). none h.steps (subst (λ n. HasZeroRemainder c.args.case.now n h.steps) (sym same) h.remainder));
    }

pub leaf-requires-clause-checks : goal.leaf-requires-clause-checks
leaf-requires-clause-checks c = triangular_checks c.args.root.now c.args.case.now c.requires.belongs c.requires.alive c.requires.settled

pub returns : goal.returns
returns c =
    let none : None_has (IsRefutedAt c.args.case.now) = λ k h. c.conditions.invariant.none k (omega (arith, h.place, c.conditions-test.false, ap (λ (ns : List (List Term)). length ns) c.known.ensures)) h in
    λ budget. triangular_end c.args.root.now budget c.args.case.now c.in_ok-leaf.field-0 c.requires.alive c.requires.settled none c.in_ok-leaf.ensures
