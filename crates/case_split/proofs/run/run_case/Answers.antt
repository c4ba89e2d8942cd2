use Rattle.std.proofs.Common.{rules, arith, sym, subst, ◌≡◌, ◌<◌, ◌≤◌}
use Rattle.std.proofs.lemmas.Result.{IfOk-weaker}
use Rattle.case_rules.specs.declared.moves.Move.TheVariants.{Reduce}
use Rattle.case_rules.specs.Cases.{CaseState}
use Rattle.case_rules.specs.Branches.{CanReduce}
use Rattle.case_rules.specs.Belonging.{Belongs}
use Rattle.case_rules.specs.Rules.{IsAlive, IsMove}
use Rattle.case_rules.specs.Ends.{IsEnd}
use Rattle.case_state.specs.Places.{IsReducedAt}
use Rattle.case_split.proofs.Due.{belongs_in_order, some_case}
use Rattle.case_split.proofs.Reducing.{main_of_move, some_place, only_dead, only_linear, only_passed, searched_none}
use Rattle.case_split.proofs.Running.{moves_after, reduced_end, spent_end}
use Rattle.case_split.proofs.run.run_case.Goals as goal

pub returns-in-Some : goal.returns-in-Some
returns-in-Some c =
    let same : c.in_ok-now.now ≡ c.args.case.now = search rules in
    IfOk-weaker c.dead.result _ _ (λ o h. subst (λ (d : CaseState). IsEnd c.args.root.now c.args.budget d o) same (h c.args.budget)) c.dead.ensures

pub due_move-requires-clause-alive : goal.due_move-requires-clause-alive
due_move-requires-clause-alive c = c.moves.invariant.alive

pub due_move-requires-clause-progress : goal.due_move-requires-clause-progress
due_move-requires-clause-progress c = c.moves.invariant.progress

pub settled-requires-clause-alive : goal.settled-requires-clause-alive
settled-requires-clause-alive c = c.moves.invariant.alive

pub split-requires-clause-alive : goal.split-requires-clause-alive
split-requires-clause-alive c = subst IsAlive (sym c.share.ensures) c.moves.invariant.alive

pub stopped_reduction-requires-clause-alive : goal.stopped_reduction-requires-clause-alive
stopped_reduction-requires-clause-alive c = let same : c.reduce_at.new.self ≡ c.moves.now = search rules in subst IsAlive (sym same) c.moves.invariant.alive

pub returns-then-moves-budget : goal.returns-then-moves-budget
returns-then-moves-budget c =
    let due : IsMove c.moves.now c.in-Some-2.due = some_case _ _ _ _ c.in_ok-due.ensures.due c.in-Some-2.is in
    c.moves.invariant.ends _ (spent_end c.args.root.now c.args.budget c.moves.now c.in-Some-2.due c.in_ok-leaf.leaf c.moves.invariant.alive due (omega (arith, c.if-moves-budget.true, c.moves-in-moves.ensures)) c.in_ok-leaf.ensures)

pub returns-in-Split : goal.returns-in-Split
returns-in-Split c =
    let within : c.share.new.self.moves < c.args.budget = subst (λ (now : CaseState). now.moves < c.args.budget) (sym c.share.ensures) (omega (arith, c.if-moves-budget.false, c.moves-in-moves.ensures)) in
    IfOk-weaker c.split.result _ _ (λ o h. c.moves.invariant.ends o (subst (λ (now : CaseState). IsEnd c.args.root.now c.args.budget now o) c.share.ensures (h c.args.budget within))) c.split.ensures

pub reduce_at-requires-clause-can : goal.reduce_at-requires-clause-can
reduce_at-requires-clause-can c =
    let due : IsMove c.moves.now c.in-Some-2.due = some_case _ _ _ _ c.in_ok-due.ensures.due c.in-Some-2.is in
    c.move_law.ensures.can c.args.root.now c.moves.now (Reduce c.in-Reduce.q c.in-Reduce.p c.in-Reduce.v) c.moves.invariant.belongs (subst (IsMove c.moves.now) c.in-Reduce.is due)

pub returns-in-Err : goal.returns-in-Err
returns-in-Err c =
    let same : c.reduce_at.new.self ≡ c.moves.now = search rules in
    let within : c.reduce_at.new.self.moves < c.args.budget = subst (λ (now : CaseState). now.moves < c.args.budget) (sym same) (omega (arith, c.if-moves-budget.false, c.moves-in-moves.ensures)) in
    IfOk-weaker c.stopped_reduction.result _ _ (λ o h. c.moves.invariant.ends o (subst (λ (now : CaseState). IsEnd c.args.root.now c.args.budget now o) same (h c.args.budget within))) c.stopped_reduction.ensures

pub dead_after-requires-clause-place : goal.dead_after-requires-clause-place
dead_after-requires-clause-place c =
    let due : IsMove c.moves.now c.in-Some-2.due = some_case _ _ _ _ c.in_ok-due.ensures.due c.in-Some-2.is in
    let can : CanReduce c.moves.now c.in-Reduce.q c.in-Reduce.p c.in-Reduce.v = c.move_law.ensures.can c.args.root.now c.moves.now (Reduce c.in-Reduce.q c.in-Reduce.p c.in-Reduce.v) c.moves.invariant.belongs (subst (IsMove c.moves.now) c.in-Reduce.is due) in
    let step : IsReducedAt c.moves.now c.in-Reduce.q c.in-Reduce.p c.in-Reduce.v c.in-Ok.at c.reduce_at.new.self = c.in-Ok.ensures.answer in
    some_place c.moves.now c.in-Reduce.q c.in-Reduce.p c.in-Reduce.v c.in-Ok.at c.reduce_at.new.self step can

pub dead_after-requires-clause-only : goal.dead_after-requires-clause-only
dead_after-requires-clause-only c =
    let due : IsMove c.moves.now c.in-Some-2.due = some_case _ _ _ _ c.in_ok-due.ensures.due c.in-Some-2.is in
    let can : CanReduce c.moves.now c.in-Reduce.q c.in-Reduce.p c.in-Reduce.v = c.move_law.ensures.can c.args.root.now c.moves.now (Reduce c.in-Reduce.q c.in-Reduce.p c.in-Reduce.v) c.moves.invariant.belongs (subst (IsMove c.moves.now) c.in-Reduce.is due) in
    let step : IsReducedAt c.moves.now c.in-Reduce.q c.in-Reduce.p c.in-Reduce.v c.in-Ok.at c.reduce_at.new.self = c.in-Ok.ensures.answer in
    only_dead c.moves.now c.in-Reduce.q c.in-Reduce.p c.in-Reduce.v c.in-Ok.at c.reduce_at.new.self step can c.moves.invariant.alive

pub dead-requires-in-Some-dead_after-clause-belongs : goal.dead-requires-in-Some-dead_after-clause-belongs
dead-requires-in-Some-dead_after-clause-belongs c =
    let due : IsMove c.moves.now c.in-Some-2.due = some_case _ _ _ _ c.in_ok-due.ensures.due c.in-Some-2.is in
    let can : CanReduce c.moves.now c.in-Reduce.q c.in-Reduce.p c.in-Reduce.v = c.move_law.ensures.can c.args.root.now c.moves.now (Reduce c.in-Reduce.q c.in-Reduce.p c.in-Reduce.v) c.moves.invariant.belongs (subst (IsMove c.moves.now) c.in-Reduce.is due) in
    let step : IsReducedAt c.moves.now c.in-Reduce.q c.in-Reduce.p c.in-Reduce.v c.in-Ok.at c.reduce_at.new.self = c.in-Ok.ensures.answer in
    c.belongs_law.ensures.reduction c.args.root.now c.moves.now c.in-Reduce.q c.in-Reduce.p c.in-Reduce.v c.reduce_at.new.self can step.reduced c.moves.invariant.belongs

pub returns-in-Some-dead_after : goal.returns-in-Some-dead_after
returns-in-Some-dead_after c =
    let due : IsMove c.moves.now c.in-Some-2.due = some_case _ _ _ _ c.in_ok-due.ensures.due c.in-Some-2.is in
    let step : IsReducedAt c.moves.now c.in-Reduce.q c.in-Reduce.p c.in-Reduce.v c.in-Ok.at c.reduce_at.new.self = c.in-Ok.ensures.answer in
    let within : c.moves.now.moves < c.args.budget = omega (arith, c.if-moves-budget.false, c.moves-in-moves.ensures) in
    IfOk-weaker c.dead-in-Some-dead_after.result _ _ (λ o h. c.moves.invariant.ends o (reduced_end c.args.root.now c.args.budget c.moves.now c.in-Reduce.q c.in-Reduce.p c.in-Reduce.v c.in-Some-2.due c.reduce_at.new.self o c.in-Reduce.is c.moves.invariant.alive due within step.reduced (h c.args.budget))) c.dead-in-Some-dead_after.ensures

pub done_after-requires-clause-place : goal.done_after-requires-clause-place
done_after-requires-clause-place c =
    let due : IsMove c.moves.now c.in-Some-2.due = some_case _ _ _ _ c.in_ok-due.ensures.due c.in-Some-2.is in
    let can : CanReduce c.moves.now c.in-Reduce.q c.in-Reduce.p c.in-Reduce.v = c.move_law.ensures.can c.args.root.now c.moves.now (Reduce c.in-Reduce.q c.in-Reduce.p c.in-Reduce.v) c.moves.invariant.belongs (subst (IsMove c.moves.now) c.in-Reduce.is due) in
    let step : IsReducedAt c.moves.now c.in-Reduce.q c.in-Reduce.p c.in-Reduce.v c.in-Ok.at c.reduce_at.new.self = c.in-Ok.ensures.answer in
    some_place c.moves.now c.in-Reduce.q c.in-Reduce.p c.in-Reduce.v c.in-Ok.at c.reduce_at.new.self step can

pub done_after-requires-clause-only : goal.done_after-requires-clause-only
done_after-requires-clause-only c =
    let due : IsMove c.moves.now c.in-Some-2.due = some_case _ _ _ _ c.in_ok-due.ensures.due c.in-Some-2.is in
    let can : CanReduce c.moves.now c.in-Reduce.q c.in-Reduce.p c.in-Reduce.v = c.move_law.ensures.can c.args.root.now c.moves.now (Reduce c.in-Reduce.q c.in-Reduce.p c.in-Reduce.v) c.moves.invariant.belongs (subst (IsMove c.moves.now) c.in-Reduce.is due) in
    let step : IsReducedAt c.moves.now c.in-Reduce.q c.in-Reduce.p c.in-Reduce.v c.in-Ok.at c.reduce_at.new.self = c.in-Ok.ensures.answer in
    let belongs : Belongs c.args.root.now c.reduce_at.new.self = c.belongs_law.ensures.reduction c.args.root.now c.moves.now c.in-Reduce.q c.in-Reduce.p c.in-Reduce.v c.reduce_at.new.self can step.reduced c.moves.invariant.belongs in
    only_linear c.moves.now c.in-Reduce.q c.in-Reduce.p c.in-Reduce.v c.in-Ok.at c.reduce_at.new.self step can _ _ _ (belongs_in_order c.args.root.now c.moves.now c.moves.invariant.belongs) (belongs_in_order c.args.root.now c.reduce_at.new.self belongs) (main_of_move c.moves.now c.in-Some-2.due c.in-Reduce.q c.in-Reduce.p c.in-Reduce.v c.in-Reduce.is due) c.due_move.ensures.progress.done c.left_of.ensures c.moved_by.ensures

pub moves-init : goal.moves-init
moves-init c =
    let same : c.in_ok-now.now ≡ c.args.case.now = search rules in
    record {
      within = subst (λ (d : CaseState). d.moves ≤ c.args.budget) (sym same) c.requires.within;
      belongs = subst (Belongs c.args.root.now) (sym same) c.requires.belongs;
      ends = λ o e. subst (λ (d : CaseState). IsEnd c.args.root.now c.args.budget d o) same e;
      alive = c.in_default.ensures;
      progress = searched_none c.in_ok-now.now;
    }

pub passed_after-requires-clause-passed : goal.passed_after-requires-clause-passed
passed_after-requires-clause-passed c =
    let due : IsMove c.moves.now c.in-Some-2.due = some_case _ _ _ _ c.in_ok-due.ensures.due c.in-Some-2.is in
    let can : CanReduce c.moves.now c.in-Reduce.q c.in-Reduce.p c.in-Reduce.v = c.move_law.ensures.can c.args.root.now c.moves.now (Reduce c.in-Reduce.q c.in-Reduce.p c.in-Reduce.v) c.moves.invariant.belongs (subst (IsMove c.moves.now) c.in-Reduce.is due) in
    let step : IsReducedAt c.moves.now c.in-Reduce.q c.in-Reduce.p c.in-Reduce.v c.in-Ok.at c.reduce_at.new.self = c.in-Ok.ensures.answer in
    let belongs : Belongs c.args.root.now c.reduce_at.new.self = c.belongs_law.ensures.reduction c.args.root.now c.moves.now c.in-Reduce.q c.in-Reduce.p c.in-Reduce.v c.reduce_at.new.self can step.reduced c.moves.invariant.belongs in
    only_passed c.moves.now c.in-Reduce.q c.in-Reduce.p c.in-Reduce.v c.in-Ok.at c.reduce_at.new.self step can c.due_move.new.progress.passed c.passed_left.result (belongs_in_order c.args.root.now c.reduce_at.new.self belongs) c.due_move.ensures.progress.passed c.passed_left.ensures.var c.passed_left.ensures.first

pub moves-preserved : goal.moves-preserved
moves-preserved c =
    let due : IsMove c.moves.now c.in-Some-2.due = some_case _ _ _ _ c.in_ok-due.ensures.due c.in-Some-2.is in
    let can : CanReduce c.moves.now c.in-Reduce.q c.in-Reduce.p c.in-Reduce.v = c.move_law.ensures.can c.args.root.now c.moves.now (Reduce c.in-Reduce.q c.in-Reduce.p c.in-Reduce.v) c.moves.invariant.belongs (subst (IsMove c.moves.now) c.in-Reduce.is due) in
    let step : IsReducedAt c.moves.now c.in-Reduce.q c.in-Reduce.p c.in-Reduce.v c.in-Ok.at c.reduce_at.new.self = c.in-Ok.ensures.answer in
    let within : c.moves.now.moves < c.args.budget = omega (arith, c.if-moves-budget.false, c.moves-in-moves.ensures) in
    record {
      within = omega (arith, moves_after c.moves.now c.in-Reduce.q c.in-Reduce.p c.in-Reduce.v c.reduce_at.new.self step.reduced, within);
      belongs = c.belongs_law.ensures.reduction c.args.root.now c.moves.now c.in-Reduce.q c.in-Reduce.p c.in-Reduce.v c.reduce_at.new.self can step.reduced c.moves.invariant.belongs;
      ends = λ o e. c.moves.invariant.ends o (reduced_end c.args.root.now c.args.budget c.moves.now c.in-Reduce.q c.in-Reduce.p c.in-Reduce.v c.in-Some-2.due c.reduce_at.new.self o c.in-Reduce.is c.moves.invariant.alive due within step.reduced e);
      alive = c.in_default-dead_after.ensures;
      progress = record { done = c.done_after.ensures; passed = c.passed_after.ensures };
    }
