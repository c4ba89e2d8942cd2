use Rattle.std.proofs.Common.{List, take}
use Rattle.sparse_poly.specs.declared.Term.{Term}
use Rattle.case_system.specs.Facts.{HaveFacts}
use Rattle.case_system.proofs.kept.new_facts.Given as goal

abbrev pub invariant-loop-equation : goal.invariant-loop-equation
invariant-loop-equation l = (units : List (List Term)) → HaveFacts units (take l.equation-index l.equations) l.list.items
