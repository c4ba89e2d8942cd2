use Rattle.std.specs.Prelude.{length}
use Rattle.std.specs.List.{AllByRecursion}
use Rattle.case_system.specs.declared.kept.Kept.{Kept}
use Rattle.case_system.specs.Facts.{HasBareFacts, HaveFacts}
use Rattle.case_system.specs.Kept.{equations_of}
use Rattle.case_system.specs.Places.{Ascend}
use Rattle.case_system.proofs.BeingCleared.{AreBeingAdded}
use Rattle.case_system.specs.CaseLines.{all_lines}
use Rattle.case_system.proofs.clearing.clear_equations.Given as goal

abbrev pub invariant-equations : goal.invariant-equations
invariant-equations l = record {
  cleared : AreBeingAdded l.conditions (all_lines l.fn.lines) (equations_of l.fn.stripped.items) (equations_of l.left.items) (all_lines l.lines) l.list.equations.items;
  bare : AllByRecursion (λ (k : Kept). HasBareFacts l.conditions k.equation.poly k.facts) l.left.items;
  ascending : Ascend l.list.equations.items;
  known : HaveFacts l.conditions l.list.equations.items l.list.facts.items;
}

abbrev pub decreases-equations : goal.decreases-equations
decreases-equations l = length l.left.items
