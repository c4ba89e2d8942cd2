use Rattle.std.specs.Prelude.{[], ◌∷◌}
use Rattle.sparse_poly.specs.Clearing.{leading_degree}
use Rattle.case_system.specs.Appending.{Grows}
use Rattle.case_system.specs.CaseLines.{all_lines}
use Rattle.case_system.proofs.BeingCleared.{IsBeingCleared}
use Rattle.case_system.proofs.clearing.divide_out.Given as goal

abbrev pub invariant-divisions : goal.invariant-divisions
invariant-divisions l = record {
  cleared : IsBeingCleared (l.n ∷ []) (all_lines l.fn.lines) l.fn.equation (l.n ∷ []) (all_lines l.lines) l.now;
  grows : Grows l.fn.lines l.lines;
}

abbrev pub decreases-divisions : goal.decreases-divisions
decreases-divisions l = leading_degree l.now.poly
