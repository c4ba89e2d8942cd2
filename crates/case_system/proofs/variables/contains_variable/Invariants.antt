use Rattle.std.proofs.Common.{◌<◌, drop}
use Rattle.std.specs.Prelude.{◌↔◌}
use Rattle.sparse_poly.specs.Reads.{degree_in}
use Rattle.case_system.proofs.variables.contains_variable.Given as goal

abbrev pub invariant-loop-term : goal.invariant-loop-term
invariant-loop-term l = (0 < degree_in l.var (drop l.term-index l.terms)) ↔ (0 < degree_in l.var l.terms)
