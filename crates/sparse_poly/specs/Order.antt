-- The order of polynomials.
use Rattle.std.specs.Prelude.{List}
use Rattle.std.specs.Ordering.{ordering_then, int_cmp}
use Rattle.std.specs.declared.cmp.Ordering.{Ordering}
use Rattle.std.specs.Cmp.Lexicographic.{slice_cmp}
use Rattle.monomial.specs.Monomials.{monomial_cmp}
use Rattle.sparse_poly.specs.declared.Term.{Term}

-- the order of terms: by their monomials, then by their coefficients
abbrev pub term_cmp : Term → Term → Ordering
term_cmp t u = ordering_then (monomial_cmp t.monomial u.monomial) (int_cmp t.coeff u.coeff)

-- the order of polynomials: term by term from the greatest monomial down, and a proper prefix is below the longer list
abbrev pub poly_cmp : List Term → List Term → Ordering
poly_cmp = slice_cmp term_cmp
