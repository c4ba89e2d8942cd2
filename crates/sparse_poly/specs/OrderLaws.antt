-- The laws of the order of polynomials: it is total, and only equal polynomials tie.
use Rattle.std.specs.Prelude.{◌≡◌}
use Rattle.std.specs.Cmp.{IsTotalOrder, on_total}
use Rattle.std.proofs.lemmas.Cmp.{then_total, lists_total, int_cmp_total}
use Rattle.std.specs.FinMap.{IsAntisymmetric, int_cmp-IsAntisymmetric, slice_cmp-IsAntisymmetric}
use Rattle.std.specs.Ordering.{int_cmp}
use Rattle.monomial.specs.Monomials.{monomial_cmp}
use Rattle.monomial.proofs.Total.{both_equal, monomial_cmp-IsAntisymmetric, monomial_cmp-IsTotalOrder}
use Rattle.sparse_poly.specs.declared.Term.{Term}
use Rattle.sparse_poly.specs.Order.{term_cmp, poly_cmp}
use Rattle.std.proofs.Common.{◌∙◌, ap}

-- two terms with one monomial and one coefficient are the same
pub same_term : (t u : Term) → t.monomial ≡ u.monomial → t.coeff ≡ u.coeff → t ≡ u
same_term t u e f =
    ap (λ m. let a : Term = record { monomial = m; coeff = t.coeff } in a) e ∙ ap (λ c. let a : Term = record { monomial = u.monomial; coeff = c } in a) f

pub term_cmp-IsAntisymmetric : IsAntisymmetric term_cmp
term_cmp-IsAntisymmetric t u e =
    let b = both_equal (monomial_cmp t.monomial u.monomial) (int_cmp t.coeff u.coeff) e in
    same_term t u (monomial_cmp-IsAntisymmetric t.monomial u.monomial b.0) (int_cmp-IsAntisymmetric t.coeff u.coeff b.1)

pub poly_cmp-IsAntisymmetric : IsAntisymmetric poly_cmp
poly_cmp-IsAntisymmetric = slice_cmp-IsAntisymmetric term_cmp-IsAntisymmetric

pub term_cmp-IsTotalOrder : IsTotalOrder term_cmp
term_cmp-IsTotalOrder = then_total (on_total (λ (t : Term). t.monomial) monomial_cmp-IsTotalOrder) (on_total (λ (t : Term). t.coeff) int_cmp_total)

pub poly_cmp-IsTotalOrder : IsTotalOrder poly_cmp
poly_cmp-IsTotalOrder = lists_total term_cmp-IsTotalOrder
