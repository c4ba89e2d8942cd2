use Rattle.std.proofs.Common.{List, drop}
use Rattle.sparse_poly.specs.declared.Term.{Term}
use Rattle.sparse_poly.specs.Clearing.{IsDividedOut}
use Rattle.sparse_poly.proofs.Stripped.cleared.Given as goal

abbrev pub invariant-loop-unit : goal.invariant-loop-unit
invariant-loop-unit l = (e h : List Term) → IsDividedOut l.units (drop l.unit-index l.units) l.cleared.factor l.cleared.rest e h → IsDividedOut l.units l.units l.initial.cleared.factor l.initial.cleared.rest e h
