use Rattle.std.proofs.Common.{sym, subst}
use Rattle.std.proofs.lemmas.Result.{IfOk-weaker}
use Rattle.case_rules.specs.declared.moves.Move.TheVariants.{Split}
use Rattle.case_rules.specs.Ends as ends
use Rattle.case_split.proofs.ends.split.Goals as goal

pub branch-zero-requires-clause-split : goal.branch-zero-requires-clause-split
branch-zero-requires-clause-split c = c.move_law.ensures.can c.args.root.now c.args.case.now (Split c.args.by c.args.tail) c.requires.belongs c.requires.due

pub branch-nonzero-requires-clause-split : goal.branch-nonzero-requires-clause-split
branch-nonzero-requires-clause-split c = c.move_law.ensures.can c.args.root.now c.args.case.now (Split c.args.by c.args.tail) c.requires.belongs c.requires.due

pub returns : goal.returns
returns c = IfOk-weaker c.split_into.result _ _ (λ o e budget l. subst (ends.IsEnd c.args.root.now budget c.args.case.now) (sym e) (ends.IsEnd.split c.args.case.now c.args.by c.args.tail c.in_Ok-zero.zero c.in_Ok-nonzero.nonzero c.requires.alive c.requires.due l c.in_Ok-zero.ensures c.in_Ok-nonzero.ensures)) c.split_into.ensures
