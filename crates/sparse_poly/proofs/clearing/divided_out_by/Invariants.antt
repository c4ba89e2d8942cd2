use Rattle.std.proofs.Common.{List, ◌∷◌}
use Rattle.sparse_poly.specs.declared.Term.{Term}
use Rattle.sparse_poly.specs.Clearing.{IsDividedOut, leading_degree}
use Rattle.sparse_poly.proofs.clearing.divided_out_by.Given as goal

abbrev pub invariant-divisions : goal.invariant-divisions
invariant-divisions l = (ns : List (List Term)) (e h : List Term) → IsDividedOut l.units (l.n ∷ ns) l.factor l.rest e h → IsDividedOut l.units (l.n ∷ ns) l.initial.factor l.initial.rest e h

abbrev pub decreases-divisions : goal.decreases-divisions
decreases-divisions l = leading_degree l.rest
