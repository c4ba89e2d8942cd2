use Rattle.std.proofs.Common.{drop}
use Rattle.case_system.specs.Appending.{Grows}
use Rattle.case_system.specs.CaseLines.{all_lines}
use Rattle.case_system.proofs.BeingCleared.{IsBeingCleared}
use Rattle.case_system.proofs.clearing.clear_from.Given as goal

abbrev pub invariant-conditions : goal.invariant-conditions
invariant-conditions l = record {
  cleared : IsBeingCleared (drop l.from l.conditions) (all_lines l.fn.lines) l.fn.equation (drop l.i l.conditions) (all_lines l.lines) l.now;
  grows : Grows l.fn.lines l.lines;
}
