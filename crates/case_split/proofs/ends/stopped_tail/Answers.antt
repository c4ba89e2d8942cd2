use Rattle.std.proofs.Common.{rules, ◌≡◌, ◌<◌, length, sym, ◌∙◌, ap, subst}
use Rattle.std.specs.Prelude.{List}
use Rattle.std.specs.declared.option.Option.TheVariants.{Some}
use Rattle.sparse_poly.specs.declared.Term.{Term}
use Rattle.sparse_poly.specs.Reads.{main_variable}
use Rattle.leaf_cert.specs.declared.ends.Stop.{Stop}
use Rattle.leaf_cert.specs.declared.ends.StepKind.TheVariants.{Tail}
use Rattle.case_rules.specs.declared.moves.Move.TheVariants.{Split}
use Rattle.case_rules.specs.Cases.{poly}
use Rattle.case_rules.specs.Branches.{IsTail}
use Rattle.case_rules.specs.Ends.{IsTailStopped}
use Rattle.case_rules.proofs.EndsBelong.{tail_checks}
use Rattle.case_split.proofs.Running.{tail_stopped_by, tail_stopped_end}
use Rattle.case_split.proofs.ends.stopped_tail.Goals as goal

pub at-q-requires : goal.at-q-requires
at-q-requires c =
    let tail : IsTail c.args.case.now c.args.by c.args.i = c.move_law.ensures.can c.args.root.now c.args.case.now (Split c.args.by (Some c.args.i)) c.requires.belongs c.requires.due in
    subst (λ es. c.args.i < length es) (sym c.equations.ensures) tail.place

pub unreachable-requires : goal.unreachable-requires
unreachable-requires c =
    let same : c.at-q.result.now ≡ poly c.args.case.now c.args.i = search rules in
    let tail : IsTail c.args.case.now c.args.by c.args.i = c.move_law.ensures.can c.args.root.now c.args.case.now (Split c.args.by (Some c.args.i)) c.requires.belongs c.requires.due in
    cc (sym c.in_default.is ∙ c.main.ensures ∙ ap main_variable same ∙ tail.initial.main)

pub leaf-requires-clause-checks : goal.leaf-requires-clause-checks
leaf-requires-clause-checks c =
    let same : c.at-q.result.now ≡ poly c.args.case.now c.args.i = search rules in
    let copied : c.in_ok-copy.field-0 ≡ poly c.args.case.now c.args.i = c.in_ok-copy.ensures ∙ same in
    let main : main_variable (poly c.args.case.now c.args.i) ≡ Some c.in-Some.v = ap main_variable (sym same) ∙ sym c.main.ensures ∙ c.in-Some.is in
    let tail : IsTail c.args.case.now c.args.by c.args.i = c.move_law.ensures.can c.args.root.now c.args.case.now (Split c.args.by (Some c.args.i)) c.requires.belongs c.requires.due in
    let stopped : IsTailStopped c.args.case.now c.args.by c.args.i c.in_ok-cause.field-0 = tail_stopped_by c.args.case.now c.args.by c.args.i c.args.fault (record { step = Tail; v = c.in-Some.v; q = c.in_ok-copy.field-0; p = c.args.by }) c.in_ok-cause.field-0 c.in-Some.v c.requires.fault c.in_ok-cause.ensures.stopped c.in_ok-cause.ensures.why main (ap (λ (q : List Term). let t : Stop = record { step = Tail; v = c.in-Some.v; q = q; p = c.args.by } in t) copied) in
    tail_checks c.args.root.now c.args.case.now c.args.by c.args.i c.in_ok-cause.field-0 tail.place stopped

pub returns : goal.returns
returns c =
    let same : c.at-q.result.now ≡ poly c.args.case.now c.args.i = search rules in
    let copied : c.in_ok-copy.field-0 ≡ poly c.args.case.now c.args.i = c.in_ok-copy.ensures ∙ same in
    let main : main_variable (poly c.args.case.now c.args.i) ≡ Some c.in-Some.v = ap main_variable (sym same) ∙ sym c.main.ensures ∙ c.in-Some.is in
    let stopped : IsTailStopped c.args.case.now c.args.by c.args.i c.in_ok-cause.field-0 = tail_stopped_by c.args.case.now c.args.by c.args.i c.args.fault (record { step = Tail; v = c.in-Some.v; q = c.in_ok-copy.field-0; p = c.args.by }) c.in_ok-cause.field-0 c.in-Some.v c.requires.fault c.in_ok-cause.ensures.stopped c.in_ok-cause.ensures.why main (ap (λ (q : List Term). let t : Stop = record { step = Tail; v = c.in-Some.v; q = q; p = c.args.by } in t) copied) in
    λ budget l. tail_stopped_end c.args.root.now budget c.args.case.now c.args.by c.args.i c.in_ok-cause.field-0 c.in_ok-leaf.field-0 c.requires.alive c.requires.due l stopped c.in_ok-leaf.ensures
