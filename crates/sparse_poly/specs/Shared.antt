-- Terms that several polynomials own together.
use Rattle.std.specs.Prelude.{List, []}
use Rattle.std.specs.Arc.{arc_value}
use Rattle.std.specs.declared.option.Option.{Option}
use Rattle.std.specs.declared.option.Option.TheVariants.{None, Some}
use Rattle.std.specs.declared.vec.Vec.{Vec}
use Rattle.std.specs.declared.sync.Arc.{Arc}
use Rattle.sparse_poly.specs.declared.Term.{Term}

abbrev pub shared_terms : {A B : Type 0} → Option (Arc (Vec Term A) B) → List Term
shared_terms None = []
shared_terms (Some terms) = (arc_value terms).items
