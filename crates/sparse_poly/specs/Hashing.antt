-- What a polynomial feeds to a hash function: equal polynomials feed the same.
use Rattle.std.specs.Prelude.{◌≡◌, ℕ, List, ◌++◌, IsTrue, flat_map}
use Rattle.std.specs.Hash.{HashWrites, u16, u32, i128}
use Rattle.std.specs.Ordering.{eq_by_cmp}
use Rattle.std.specs.Cmp.{Equal-is}
use Rattle.std.proofs.Common.{ap}
use Rattle.sparse_poly.specs.declared.Term.{Term}
use Rattle.sparse_poly.specs.Order.{poly_cmp}
use Rattle.sparse_poly.specs.OrderLaws.{poly_cmp-IsAntisymmetric}

abbrev pub power_input : ℕ × ℕ → HashWrites
power_input p = u32 p.0 ++ u16 p.1

abbrev pub powers_input : List (ℕ × ℕ) → HashWrites
powers_input ps = flat_map power_input ps

abbrev pub terms_input : List Term → HashWrites
terms_input ts = flat_map (λ (t : Term). i128 t.coeff ++ powers_input t.monomial) ts

pub terms_input-respects : (p q : List Term) → IsTrue (eq_by_cmp poly_cmp p q) → terms_input p ≡ terms_input q
terms_input-respects p q e = ap terms_input (poly_cmp-IsAntisymmetric p q ((Equal-is (poly_cmp p q)).0 e))
