use Rattle.std.proofs.Common.{rules, sym, ◌∙◌}
use Rattle.std.proofs.lemmas.Bool.{true≢false}
use Rattle.case_rules.specs.Rules.{IsLeast, IsUndecidedAt, linear}
use Rattle.case_rules.specs.Cases.{known, poly}
use Rattle.case_split.specs.Found.{AreDecided}
use Rattle.case_split.proofs.Due.{have_main, factor_due, pair_due, pair_split_due, initial_due, decided_by, undecided_by, none_case, some_case}
use Rattle.case_split.proofs.rules.due_move.Goals as goal

pub returns-in-Some-clause-due : goal.returns-in-Some-clause-due
returns-in-Some-clause-due c = linear c.in-Some.field-0.q c.in-Some.field-0.p c.in-Some.field-0.var (search rules)

pub returns-in-Some-factor_move-clause-due : goal.returns-in-Some-factor_move-clause-due
returns-in-Some-factor_move-clause-due c = factor_due c.args.case.now c.in-Some-factor_move.var _ (search rules) (search rules) (search rules)

pub pair-requires-clause-main : goal.pair-requires-clause-main
pair-requires-clause-main c = have_main c.args.case.now c.requires.in_order c.requires.alive

pub returns-then-branch-clause-due : goal.returns-then-branch-clause-due
returns-then-branch-clause-due c =
    pair_due c.args.case.now c.in-Some-pair.field-0.q c.in-Some-pair.field-0.p c.in-Some-pair.field-0.var c.in_default.ensures.due c.in_default-factor_move.ensures c.in-Some-pair.ensures
    (decided_by c.known.result.now (known c.args.case.now) c.at.result.now (poly c.args.case.now c.in-Some-pair.field-0.p) _ (search rules) (search rules) c.in_ok-decided.ensures c.if-branch.true)

pub returns-in-Some-pair-clause-due : goal.returns-in-Some-pair-clause-due
returns-in-Some-pair-clause-due c =
    pair_split_due c.args.case.now c.in-Some-pair.field-0.q c.in-Some-pair.field-0.p c.in-Some-pair.field-0.var c.in_ok-initial_split.field-0 c.in_default.ensures.due c.in_default-factor_move.ensures c.in-Some-pair.ensures
    (undecided_by c.known.result.now (known c.args.case.now) c.at.result.now (poly c.args.case.now c.in-Some-pair.field-0.p) _ (search rules) (search rules) c.in_ok-decided.ensures (λ t. true≢false (sym t ∙ c.if-branch.false)))
    c.in_ok-initial_split.ensures

pub undecided_at-requires : goal.undecided_at-requires
undecided_at-requires c = have_main c.args.case.now c.requires.in_order c.requires.alive

pub initial_split-requires-in-Some-2-clause-varied : goal.initial_split-requires-in-Some-2-clause-varied
initial_split-requires-in-Some-2-clause-varied c =
    let least : IsLeast (IsUndecidedAt c.args.case.now) c.in-Some-2.i = some_case _ _ _ _ c.in_ok-i.ensures c.in-Some-2.is in
    have_main c.args.case.now c.requires.in_order c.requires.alive c.in-Some-2.i least.has.place

pub returns-in_ok-initial_split-in-Some-2-clause-due : goal.returns-in_ok-initial_split-in-Some-2-clause-due
returns-in_ok-initial_split-in-Some-2-clause-due c =
    let least : IsLeast (IsUndecidedAt c.args.case.now) c.in-Some-2.i = some_case _ _ _ _ c.in_ok-i.ensures c.in-Some-2.is in
    initial_due c.args.case.now c.in-Some-2.i c.in_ok-initial_split-in-Some-2.field-0 c.in_default.ensures.due c.in_default-factor_move.ensures c.in_default-pair.ensures least c.in_ok-initial_split-in-Some-2.ensures

pub returns-in-None-clause-due : goal.returns-in-None-clause-due
returns-in-None-clause-due c =
    let decided : AreDecided c.args.case.now = none_case _ _ _ c.in_ok-i.ensures c.in-None.is in
    record { linear = c.in_default.ensures.due; factor = c.in_default-factor_move.ensures; pair = c.in_default-pair.ensures; decided = decided }
