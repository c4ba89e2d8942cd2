use Rattle.std.specs.Prelude.{List, take}
use Rattle.sparse_poly.specs.declared.Term.{Term}
use Rattle.derive_lines.specs.declared.parts.Decision.{Decision}
use Rattle.pattern_store.specs.Numbers.{GrowsTo, AllNamed}
use Rattle.pattern_store.proofs.numbering.name_all.Given as goal

-- the names go on, and the decisions so far have one
pub record Named (old now : List (List Term)) (ds : List Decision) : Type 0 where
  pub grows : GrowsTo old now
  pub named : AllNamed now ds

abbrev pub invariant-loop-d : goal.invariant-loop-d
invariant-loop-d l = Named l.fn.names.keys l.names.keys (take l.d-index l.decisions)
