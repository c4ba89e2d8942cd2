use Rattle.std.proofs.Common.{subst}
use Rattle.case_rules.specs.Ends.{IsEnd}
use Rattle.example_tests.proofs.Rooting.{branches}
use Rattle.example_tests.proofs.cases.branch_of.Goals as goal

pub returns-then-zero-clause-belongs : goal.returns-then-zero-clause-belongs
returns-then-zero-clause-belongs c = (branches c.args.root.now c.args.budget c.args.case.now c.in-Split.by c.in-Split.branch c.in-Split.other (c.end_law.ensures c.args.root.now c.args.budget c.requires.root) c.requires.belongs c.requires.within (subst (IsEnd c.args.root.now c.args.budget c.args.case.now) c.in-Split.is c.in_ok-branch.ensures)).zero_belongs

pub returns-then-zero-clause-within : goal.returns-then-zero-clause-within
returns-then-zero-clause-within c = (branches c.args.root.now c.args.budget c.args.case.now c.in-Split.by c.in-Split.branch c.in-Split.other (c.end_law.ensures c.args.root.now c.args.budget c.requires.root) c.requires.belongs c.requires.within (subst (IsEnd c.args.root.now c.args.budget c.args.case.now) c.in-Split.is c.in_ok-branch.ensures)).zero_moves

pub returns-in-Split-clause-belongs : goal.returns-in-Split-clause-belongs
returns-in-Split-clause-belongs c = (branches c.args.root.now c.args.budget c.args.case.now c.in-Split.by c.in-Split.branch c.in-Split.other (c.end_law.ensures c.args.root.now c.args.budget c.requires.root) c.requires.belongs c.requires.within (subst (IsEnd c.args.root.now c.args.budget c.args.case.now) c.in-Split.is c.in_ok-branch.ensures)).nonzero_belongs

pub returns-in-Split-clause-within : goal.returns-in-Split-clause-within
returns-in-Split-clause-within c = (branches c.args.root.now c.args.budget c.args.case.now c.in-Split.by c.in-Split.branch c.in-Split.other (c.end_law.ensures c.args.root.now c.args.budget c.requires.root) c.requires.belongs c.requires.within (subst (IsEnd c.args.root.now c.args.budget c.args.case.now) c.in-Split.is c.in_ok-branch.ensures)).nonzero_moves
