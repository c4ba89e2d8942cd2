use Rattle.std.proofs.Common.{rules, ◌≡◌}
use Rattle.pseudo_rem.specs.Steps.{step_contributions}
use Rattle.case_rules.specs.declared.moves.Move.TheVariants.{Reduce}
use Rattle.case_rules.specs.Cases.{poly}
use Rattle.case_rules.specs.Ends.{IsReductionStopped}
use Rattle.case_rules.proofs.EndsBelong.{reduction_checks}
use Rattle.case_split.proofs.Running.{same_stop, reduction_stopped_end}
use Rattle.case_split.proofs.ends.stopped_reduction.Goals as goal

pub leaf-requires-clause-checks : goal.leaf-requires-clause-checks
leaf-requires-clause-checks c =
    let q : c.in_ok-copy.field-0 ≡ poly c.args.case.now c.args.operands.q = search rules in
    let p : c.in_ok-copy-2.field-0 ≡ poly c.args.case.now c.args.operands.p = search rules in
    let stopped : IsReductionStopped c.args.case.now c.args.operands.q c.args.operands.p c.args.operands.var c.in_ok-cause.field-0 = same_stop (step_contributions c.args.operands.var (poly c.args.case.now c.args.operands.q) (poly c.args.case.now c.args.operands.p)) c.args.operands.var _ _ _ _ c.in_ok-cause.field-0 q p (c.in_ok-cause.ensures.why _ c.requires.fault) in
    reduction_checks c.args.root.now c.args.case.now c.args.operands.q c.args.operands.p c.args.operands.var c.in_ok-cause.field-0 c.requires.belongs (c.move_law.ensures.can c.args.root.now c.args.case.now (Reduce c.args.operands.q c.args.operands.p c.args.operands.var) c.requires.belongs c.requires.due) stopped

pub returns : goal.returns
returns c =
    let q : c.in_ok-copy.field-0 ≡ poly c.args.case.now c.args.operands.q = search rules in
    let p : c.in_ok-copy-2.field-0 ≡ poly c.args.case.now c.args.operands.p = search rules in
    let stopped : IsReductionStopped c.args.case.now c.args.operands.q c.args.operands.p c.args.operands.var c.in_ok-cause.field-0 = same_stop (step_contributions c.args.operands.var (poly c.args.case.now c.args.operands.q) (poly c.args.case.now c.args.operands.p)) c.args.operands.var _ _ _ _ c.in_ok-cause.field-0 q p (c.in_ok-cause.ensures.why _ c.requires.fault) in
    λ budget l. reduction_stopped_end c.args.root.now budget c.args.case.now c.args.operands.q c.args.operands.p c.args.operands.var c.in_ok-cause.field-0 c.in_ok-leaf.field-0 c.requires.alive c.requires.due l stopped c.in_ok-leaf.ensures
