-- Root equations one by one.
use Rattle.std.specs.Prelude.{◌≡◌, ◌≢◌, List, []}
use Rattle.std.specs.List.{AllByRecursion}
use Rattle.std.specs.declared.cmp.Ordering.TheVariants.{Less}
use Rattle.sparse_poly.specs.declared.Term.{Term}
use Rattle.sparse_poly.specs.Order.{poly_cmp}
use Rattle.sparse_poly.specs.Contributions.{IsPoly}
use Rattle.sparse_poly.specs.Primitive.{IsPrimitive}

-- a polynomial that is primitive and not zero
pub record IsRootPoly (p : List Term) : Type 0 where
  pub poly : IsPoly p
  pub primitive : IsPrimitive p
  pub nonzero : p ≢ []

-- a polynomial is below each of these
abbrev pub IsBelowAll : List Term → List (List Term) → Type 0
IsBelowAll p qs = AllByRecursion (λ (q : List Term). poly_cmp p q ≡ Less) qs
