use Rattle.std.proofs.Common.{drop}
use Rattle.std.specs.Prelude.{◌↔◌}
use Rattle.sparse_poly.specs.Clearing.{IsDividedBy}
use Rattle.case_system.proofs.variables.is_divided_by.Given as goal

abbrev pub invariant-loop-term : goal.invariant-loop-term
invariant-loop-term l = IsDividedBy l.var (drop l.term-index l.terms) ↔ IsDividedBy l.var l.terms
