-- When two polynomials are the same.
use Rattle.std.specs.Prelude.{Bool, List}
use Rattle.std.specs.Ordering.{eq_by_cmp}
use Rattle.sparse_poly.specs.declared.Term.{Term}
use Rattle.sparse_poly.specs.Order.{poly_cmp}

abbrev pub same_poly : List Term → List Term → Bool
same_poly = eq_by_cmp poly_cmp
