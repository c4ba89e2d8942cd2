use Rattle.std.proofs.Common.{drop}
use Rattle.std.specs.List.{AllByRecursion}
use Rattle.case_system.specs.declared.kept.Kept.{Kept}
use Rattle.case_system.specs.Facts.{HasBareFacts}
use Rattle.case_system.specs.Kept.{equations_of}
use Rattle.case_system.proofs.BeingCleared.{AreBeingStripped}
use Rattle.case_system.specs.CaseLines.{all_lines}
use Rattle.case_system.proofs.clearing.strip_equations.Given as goal

abbrev pub invariant-loop-i : goal.invariant-loop-i
invariant-loop-i l = record {
  stripped : AreBeingStripped l.conditions (all_lines l.fn.lines) l.list.equations.items (drop l.i l.list.equations.items) (all_lines l.lines) (equations_of l.stripped.items);
  bare : AllByRecursion (λ (k : Kept). HasBareFacts l.conditions k.equation.poly k.facts) l.stripped.items;
}
