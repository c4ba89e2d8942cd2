-- The constant 1 is a unit.
use Rattle.std.specs.Prelude.{◌≡◌, ◌≢◌, ◌<◌, ◌≤◌, ℕ, pos, ◌<ℤ◌, List, refl}
use mathlib.Core.Logic.{inl}
use Rattle.std.proofs.Common.{arith}
use Rattle.std.proofs.lemmas.Int.{ints}
use Rattle.sparse_poly.specs.declared.Term.{Term}
use Rattle.sparse_poly.specs.Polynomials.{constant}
use Rattle.sparse_poly.specs.Contributions.{max_coeff, IsPoly}
use Rattle.sparse_poly.specs.Clearing.{IsStripUnit}
use Rattle.sparse_poly.proofs.InForm.{one_size}

some : pos 1 ≢ pos 0
some e = omega (arith, ints, e)

positive : pos 0 <ℤ pos 1
positive = omega (arith, ints)

small : 1 ≤ max_coeff
small = omega arith

one_poly : IsPoly (constant (pos 1))
one_poly = record { falling = (tt, tt); monomials = (record { powers = tt; in_range = tt }, tt); apart = (some, tt); in_range = (small, tt) }

never : (n : ℕ) → n ≡ 0 → 0 < n → ⊥
never n e l = omega (arith, e, l)

pub unit_one : (units : List (List Term)) → IsStripUnit units (constant (pos 1))
unit_one units = record {
  factor = constant (pos 1);
  rest = constant (pos 1);
  stripped = record {
    factor_poly = one_poly;
    rest_poly = one_poly;
    product = λ m. refl;
    primitive = (positive, λ d a. one_size d a.0);
    divided = λ v c a. absurd (never 0 refl a.0);
    out = tt;
    zero_factor = λ e. absurd (cc e);
  };
  member = inl refl;
}
